use Rattle.std.proofs.Common.{◌≡◌, take}
use Rattle.std.specs.List.{filter_map}
use Rattle.trace_ops.specs.Active.{unless_active}
use Rattle.trace_ops.proofs.active.not_active.Given as goal

abbrev pub invariant-loop-number : goal.invariant-loop-number
invariant-loop-number l = l.idle.items ≡ filter_map (unless_active l.active) (take l.number-index l.numbers)
