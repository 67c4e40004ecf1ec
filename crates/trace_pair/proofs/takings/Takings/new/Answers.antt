use Rattle.std.proofs.Common.{ℕ, None, ap, ◌∙◌}
use Rattle.std.specs.Prelude.{replicate}
use Rattle.trace_pair.proofs.Offered.{new_takings}
use Rattle.trace_pair.proofs.takings.Takings.new.Goals as goal

pub invariant_of-result : goal.invariant_of-result
invariant_of-result c = new_takings c.args.messages _ c.in_ok-queues.ensures.plain c.in_ok-takers.takers _ c.requires
    (c.in_ok-takers.ensures ∙ ap (λ (n : ℕ). replicate n None) c.len.ensures) c.in_ok-queues.ensures.queues
