use Rattle.std.proofs.Common.{◌≡◌, take}
use Rattle.trace_arguments.specs.Values.{values_from}
use Rattle.trace_arguments.proofs.values.values_of.Given as goal

abbrev pub invariant-loop-place : goal.invariant-loop-place
invariant-loop-place l = l.values.items ≡ values_from l.entries l.calls l.c 0 (take l.place l.members)
