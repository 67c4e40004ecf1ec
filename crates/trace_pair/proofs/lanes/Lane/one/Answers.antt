use Rattle.trace_pair.proofs.LaneSteps.{set_of_pushed}
use Rattle.trace_pair.proofs.lanes.Lane.one.Goals as goal

pub returns : goal.returns
returns c = set_of_pushed c.in_ok-steps.steps.items c.push.new.self.items _ c.in_ok-steps.ensures.items c.in_ok-push.ensures.items
