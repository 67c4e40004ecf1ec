use Rattle.std.proofs.Common.{◌≡◌, subst, List, true}
use Rattle.std.specs.Prelude.{is_some, IfSome, IfNone}
use Rattle.mpi_model.specs.declared.message.Message.{Message}
use Rattle.mpi_model.specs.Fit.{envelopes_fit}
use Rattle.trace_ops.specs.Order.{Has}
use Rattle.trace_pair.specs.Indexed.{IsFirstMessage}
use Rattle.trace_pair.proofs.Queued.{queue_if, queue_if_none, lane_if, lane_if_none}
use Rattle.trace_pair.proofs.queues.Messages.first_for.Goals as goal

pub returns-in-Some-tag-clause-some : goal.returns-in-Some-tag-clause-some
returns-in-Some-tag-clause-some c = subst (λ (l : List Message). IfSome c.first_at.result (IsFirstMessage l c.args.q.now)) c.self.view_is
    (queue_if c.self.inside.tagged c.self.inside.lanes c.self.invariant c.args.q.now c.in-Some.source c.in-Some-tag.tag c.first_at.result c.in-Some.is c.in-Some-tag.is c.first_at.ensures.some)

pub returns-in-Some-tag-clause-none : goal.returns-in-Some-tag-clause-none
returns-in-Some-tag-clause-none c = subst (λ (l : List Message). IfNone c.first_at.result (is_some c.args.q.now.source ≡ true → (n : Message) → Has l n → envelopes_fit n c.args.q.now ≡ true → ⊥)) c.self.view_is
    (queue_if_none c.self.inside.tagged c.self.inside.lanes c.self.invariant c.args.q.now c.in-Some.source c.in-Some-tag.tag c.first_at.result c.in-Some.is c.in-Some-tag.is c.first_at.ensures.none)

pub returns-in-None-tag-clause-some : goal.returns-in-None-tag-clause-some
returns-in-None-tag-clause-some c = subst (λ (l : List Message). IfSome c.first_at-in-None-tag.result (IsFirstMessage l c.args.q.now)) c.self.view_is
    (lane_if c.self.inside.tagged c.self.inside.lanes c.self.invariant c.args.q.now c.in-Some.source c.first_at-in-None-tag.result c.in-Some.is c.in-None-tag.is c.first_at-in-None-tag.ensures.some)

pub returns-in-None-tag-clause-none : goal.returns-in-None-tag-clause-none
returns-in-None-tag-clause-none c = subst (λ (l : List Message). IfNone c.first_at-in-None-tag.result (is_some c.args.q.now.source ≡ true → (n : Message) → Has l n → envelopes_fit n c.args.q.now ≡ true → ⊥)) c.self.view_is
    (lane_if_none c.self.inside.tagged c.self.inside.lanes c.self.invariant c.args.q.now c.in-Some.source c.first_at-in-None-tag.result c.in-Some.is c.first_at-in-None-tag.ensures.none)
