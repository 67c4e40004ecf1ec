use Rattle.std.proofs.Common.{◌≡◌, ◌∙◌, IfOk, List, ap, subst, sym}
use Rattle.trace_ops.specs.Ops.{Ops}
use Rattle.trace_ops.specs.Order.{AreCalledInOrder, AreEntered, AreInOrder, ArePosted}
use Rattle.trace_stuck.specs.Shape.{shape}
use Rattle.trace_wait.specs.Polls.{asked_by}
use Rattle.trace_wait.specs.Ranks.{ops_of}
use Rattle.trace_wait.proofs.Before.{ops_at}
use Rattle.trace_wait.proofs.Searches.{own_at}
use Rattle.trace_wait.proofs.polls.asked_of.Goals as goal

pub asked_by-requires-clause-rank : goal.asked_by-requires-clause-rank
asked_by-requires-clause-rank c = record {
  same = ap (λ (l : List Ops). ops_of l c.args.poll.now.rank) c.requires.run ∙ ops_at c.args.ops.now c.args.poll.now.rank c.index-ops-poll.result c.requires.there
      ∙ sym c.index-ops-poll.is;
  rounds_rise = subst (λ (o : Ops). AreEntered o.rounds) (sym c.index-ops-poll.is) (own_at 0 c.args.ops.now c.args.poll.now.rank c.index-ops-poll.result c.requires.own c.requires.there).rounds;
}

pub asked_by-requires-clause-sends : goal.asked_by-requires-clause-sends
asked_by-requires-clause-sends c =
    subst (λ (o : Ops). AreInOrder o.sends) (sym c.index-ops-poll.is) (own_at 0 c.args.ops.now c.args.poll.now.rank c.index-ops-poll.result c.requires.own c.requires.there).sends

pub asked_by-requires-clause-receives : goal.asked_by-requires-clause-receives
asked_by-requires-clause-receives c =
    subst (λ (o : Ops). ArePosted o.receives) (sym c.index-ops-poll.is) (own_at 0 c.args.ops.now c.args.poll.now.rank c.index-ops-poll.result c.requires.own c.requires.there).receives

pub asked_by-requires-clause-cancelled : goal.asked_by-requires-clause-cancelled
asked_by-requires-clause-cancelled c =
    subst (λ (o : Ops). AreCalledInOrder o.cancelled) (sym c.index-ops-poll.is) (own_at 0 c.args.ops.now c.args.poll.now.rank c.index-ops-poll.result c.requires.own c.requires.there).cancelled

pub returns : goal.returns
returns c =
    let same = ap (λ (l : List Ops). ops_of l c.args.poll.now.rank) c.requires.run ∙ ops_at c.args.ops.now c.args.poll.now.rank c.index-ops-poll.result c.requires.there
    ∙ sym c.index-ops-poll.is in
    subst (λ (o : Ops). IfOk c.asked_by.result (λ x. shape x ≡ asked_by c.args.run.now c.args.poll.now.rank o c.args.poll.now.number c.args.poll.now.call.now)) (sym same) c.asked_by.ensures
