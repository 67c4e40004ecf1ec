use Rattle.std.proofs.Common.{◌≡◌, filter, map, take}
use Rattle.trace_arguments.specs.Groups.{group_of, leads}
use Rattle.trace_arguments.proofs.groups.grouped.Given as goal

abbrev pub invariant-loop-value : goal.invariant-loop-value
invariant-loop-value l = l.groups.items ≡ map (group_of l.line l.values) (filter (leads l.line l.values) (take l.value-index l.values))
