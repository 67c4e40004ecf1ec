use Rattle.std.proofs.Common.{◌≡◌, ◌++◌, ◌-◌}
use Rattle.trace_diagnosis.specs.Places.{first_of}
use Rattle.trace_diagnosis.proofs.joined.first_of.Given as goal

abbrev pub invariant-loop-step : goal.invariant-loop-step
invariant-loop-step l = l.first.items ++ first_of (3 - l._step) l.left l.right ≡ first_of 3 l.one l.other
