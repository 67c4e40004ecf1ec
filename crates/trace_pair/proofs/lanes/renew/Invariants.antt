use Rattle.std.proofs.Common.{◌≡◌, None, take}
use Rattle.trace_pair.specs.Lanes.{AreLatest, receives_of}
use Rattle.trace_pair.proofs.lanes.renew.Given as goal

abbrev pub invariant-loop-i : goal.invariant-loop-i
invariant-loop-i l = record { told : AreLatest None (take l.i l.steps); same : receives_of l.steps ≡ receives_of l.fn.steps }
