use Rattle.std.proofs.Common.{◌≡◌, false, take}
use Rattle.trace_wait.specs.Conditions.{does_one_wait}
use Rattle.trace_diagnosis.proofs.whole.does_one_wait.Given as goal

abbrev pub invariant-loop-own : goal.invariant-loop-own
invariant-loop-own l = does_one_wait (take l.own-index l.ops) ≡ false
