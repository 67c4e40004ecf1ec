use Rattle.std.proofs.Common.{◌≡◌, All, filter, map, take}
use Rattle.trace_diagnosis.specs.Missed.{HasNearMessages}
use Rattle.trace_diagnosis.specs.Unmatched.{is_of_waiting}
use Rattle.trace_diagnosis.proofs.unmatched.told_receives.Given as goal

abbrev pub invariant-loop-at : goal.invariant-loop-at
invariant-loop-at l = record {
  receives : map (λ s. s.receive) l.told.items ≡ filter (is_of_waiting l.run.waits.now) (take l.at l.starving);
  near : All (HasNearMessages l.found.left.items) l.told.items;
}
