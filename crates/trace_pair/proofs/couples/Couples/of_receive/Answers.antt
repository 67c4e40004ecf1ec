use Rattle.std.proofs.Common.{subst, List}
use Rattle.std.specs.Prelude.{IfSome, IfNone}
use Rattle.mpi_model.specs.declared.message.Message.{Message}
use Rattle.trace_ops.specs.Order.{Has}
use Rattle.trace_pair.specs.Coupled.{IsOneReceive}
use Rattle.trace_pair.specs.Indexed.{couple_of}
use Rattle.trace_pair.specs.declared.pair.Couple.{Couple}
use Rattle.trace_pair.proofs.Mutual.{taken_if_some, taken_if_none}
use Rattle.trace_pair.proofs.couples.Couples.of_receive.Goals as goal

pub returns-clause-some : goal.returns-clause-some
returns-clause-some c =
    subst (λ (l : List Couple). IfSome c.value_at.result (λ m. IsOneReceive l c.args.q.now → Has l (couple_of m c.args.q.now))) c.self.view_is
    (taken_if_some c.self.inside.takers.items c.self.inside.taken.items c.self.invariant c.args.q.now c.value_at.result c.value_at.ensures)

pub returns-clause-none : goal.returns-clause-none
returns-clause-none c =
    subst (λ (l : List Couple). IfNone c.value_at.result ((m : Message) → Has l (couple_of m c.args.q.now) → ⊥)) c.self.view_is
    (taken_if_none c.self.inside.takers.items c.self.inside.taken.items c.self.invariant c.args.q.now c.value_at.result c.value_at.ensures)
