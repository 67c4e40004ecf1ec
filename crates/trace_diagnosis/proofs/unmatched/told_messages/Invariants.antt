use Rattle.std.proofs.Common.{◌≡◌, All, filter, map, take}
use Rattle.trace_diagnosis.specs.LeftOver.{is_told}
use Rattle.trace_diagnosis.specs.Missed.{HasNearReceives}
use Rattle.trace_diagnosis.proofs.unmatched.told_messages.Given as goal

abbrev pub invariant-loop-m : goal.invariant-loop-m
invariant-loop-m l = record {
  messages : map (λ t. t.message) l.told.items ≡ filter (is_told l.run.held.now l.run.waits.now) (take l.m-index l.m-items);
  near : All (HasNearReceives l.found.starving.items) l.told.items;
}
