use Rattle.std.proofs.Common.{arith, refl, ◌∙◌}
use Rattle.std.proofs.Math.Seq.{map-set_same}
use Rattle.trace_pair.specs.declared.lanes.Step.{Step}
use Rattle.trace_pair.proofs.LaneSteps.{renewed}
use Rattle.trace_pair.proofs.lanes.renew.Goals as goal

pub loop-i-preserved : goal.loop-i-preserved
loop-i-preserved c = record {
  told = renewed c.loop-i.steps c.loop-i.i _ c.end_of_front.result (omega arith) c.end_of_front.ensures c.with_end.ensures c.loop-i.invariant.told;
  same = map-set_same (λ (s : Step). s.receive) c.loop-i.steps c.loop-i.i _ _ refl ∙ c.loop-i.invariant.same;
}
