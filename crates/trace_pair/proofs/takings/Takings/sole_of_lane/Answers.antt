use Rattle.std.proofs.Common.{subst, refl}
use Rattle.trace_pair.specs.Waiting.{Takings, IsSolePlace}
use Rattle.trace_pair.proofs.Offered.{lanes_made, lane_passed, sole_in_lane}
use Rattle.trace_pair.proofs.Queued.{lane}
use Rattle.trace_pair.proofs.takings.Takings.sole_of_lane.Goals as goal

pub invariant_of-self-2 : goal.invariant_of-self-2
invariant_of-self-2 c =
    let made = lanes_made _ _ _ _ _ c.self.invariant c.take-had.result c.in_ok-lanes.lanes c.self.inside.messages c.take-had.ensures.value refl c.in_ok-lanes.ensures in
    lane_passed _ _ _ _ _ c.self.invariant c.in_ok-lanes.lanes c.sole_at-place.new.self (lane c.args.q.now.comm c.args.source c.args.q.now.at) c.self.inside.takers refl made
    c.sole_at-place.ensures.left

pub returns-clause-sole : goal.returns-clause-sole
returns-clause-sole c =
    let made = lanes_made _ _ _ _ _ c.self.invariant c.take-had.result c.in_ok-lanes.lanes c.self.inside.messages c.take-had.ensures.value refl c.in_ok-lanes.ensures in
    subst (λ (t : Takings). IsSolePlace t c.args.q.now c.sole_at-place.result) c.self.view_is
    (sole_in_lane _ _ _ _ _ c.self.invariant c.in_ok-lanes.lanes made c.args.q.now c.args.source c.self.inside.messages c.self.inside.takers c.sole_at-place.result refl refl c.requires.source c.requires.tag c.sole_at-place.ensures.sole)
