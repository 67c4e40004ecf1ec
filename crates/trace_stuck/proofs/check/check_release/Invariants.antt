use Rattle.std.proofs.Common.{take}
use Rattle.trace_stuck.specs.Release.{IsReleaseOrder}
use Rattle.trace_stuck.proofs.check.check_release.Given as goal

abbrev pub invariant-loop-i : goal.invariant-loop-i
invariant-loop-i l = IsReleaseOrder l.states l.conditions (take l.i l.release)
