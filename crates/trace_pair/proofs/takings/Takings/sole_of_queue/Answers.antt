use Rattle.std.proofs.Common.{subst, refl}
use Rattle.trace_pair.specs.Waiting.{Takings, IsSolePlace}
use Rattle.trace_pair.proofs.Offered.{queue_passed, sole_in_queue}
use Rattle.trace_pair.proofs.Queued.{queue}
use Rattle.trace_pair.proofs.takings.Takings.sole_of_queue.Goals as goal

pub invariant_of-self : goal.invariant_of-self
invariant_of-self c = queue_passed _ _ _ _ _ c.self.invariant c.sole_at.new.self (queue c.args.q.now.comm c.args.source c.args.q.now.at c.args.tag) c.self.inside.takers refl c.sole_at.ensures.left

pub returns-clause-sole : goal.returns-clause-sole
returns-clause-sole c = subst (λ (t : Takings). IsSolePlace t c.args.q.now c.sole_at.result) c.self.view_is
    (sole_in_queue _ _ _ _ _ c.self.invariant c.args.q.now c.args.source c.args.tag c.self.inside.messages c.self.inside.takers c.sole_at.result refl refl c.requires.source c.requires.tag c.sole_at.ensures.sole)
