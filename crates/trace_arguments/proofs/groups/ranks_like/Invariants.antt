use Rattle.std.proofs.Common.{◌≡◌, take}
use Rattle.trace_arguments.specs.Groups.{ranks_like}
use Rattle.trace_arguments.proofs.groups.ranks_like.Given as goal

abbrev pub invariant-loop-other : goal.invariant-loop-other
invariant-loop-other l = l.ranks.items ≡ ranks_like l.line l.value (take l.other-index l.values)
