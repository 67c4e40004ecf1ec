use Rattle.std.proofs.Common.{sym, subst, List}
use Rattle.mpi_model.specs.declared.message.Receive.{Receive}
use Rattle.trace_ops.specs.Order.{Has}
use Rattle.trace_pair.specs.Coupled.{IsOneMessage, receive_by}
use Rattle.trace_pair.specs.Indexed.{couple_of}
use Rattle.trace_pair.specs.declared.pair.Couple.{Couple}
use Rattle.trace_pair.proofs.Mutual.{taker_some, taker_none}
use Rattle.trace_pair.proofs.couples.Couples.of_message.Goals as goal

pub returns-in-Some-clause-some : goal.returns-in-Some-clause-some
returns-in-Some-clause-some c = λ one.
    let o = subst (λ (l : List Couple). IsOneMessage l c.args.m.now) (sym c.self.view_is) one in
    subst (λ (q : Receive). Has c.args.self.now (couple_of c.args.m.now q)) (sym c.receive_by.ensures)
    (subst (λ (l : List Couple). Has l (couple_of c.args.m.now (receive_by c.args.m.now c.in-Some.taker))) c.self.view_is
    (taker_some c.self.inside.takers.items c.self.inside.taken.items c.self.invariant c.args.m.now c.in-Some.taker (sym c.in-Some.ensures) o))

pub returns-in-None-clause-none : goal.returns-in-None-clause-none
returns-in-None-clause-none c = λ q i.
    taker_none c.self.inside.takers.items c.self.inside.taken.items c.self.invariant c.args.m.now (sym c.in-None.ensures) q (subst (λ (l : List Couple). Has l (couple_of c.args.m.now q)) (sym c.self.view_is) i)
