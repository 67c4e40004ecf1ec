use Rattle.std.proofs.Common.{◌≡◌, false, take}
use Rattle.trace_wait.specs.Conditions.{does_one_wait}
use Rattle.trace_wait.proofs.waiting.does_one_wait.Given as goal

abbrev pub invariant-loop-o : goal.invariant-loop-o
invariant-loop-o l = does_one_wait (take l.o-index l.ops) ≡ false
