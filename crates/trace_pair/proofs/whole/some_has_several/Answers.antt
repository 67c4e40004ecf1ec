use Rattle.std.proofs.Common.{List, subst, sym, arith}
use Rattle.std.specs.List.{All}
use Rattle.std.proofs.lemmas.List.{take_all}
use Rattle.std.proofs.lemmas.List.Elements.{All-more}
use Rattle.trace_ops.specs.Ops.{Ops}
use Rattle.trace_ops.specs.Order.{AreInOrder, ArePosted}
use Rattle.trace_pair.specs.Calls.{IsSingle}
use Rattle.trace_pair.proofs.Ranked.{own_at}
use Rattle.trace_pair.proofs.whole.some_has_several.Goals as goal

pub has_several-requires-clause-sends : goal.has_several-requires-clause-sends
has_several-requires-clause-sends c = subst (λ (o : Ops). AreInOrder o.sends) (sym c.own-item.is) (own_at c.args.held.now 0 c.loop-own.own-index c.own-item.result c.loop-own-test.true c.requires).sends_rise

pub has_several-requires-clause-receives : goal.has_several-requires-clause-receives
has_several-requires-clause-receives c = subst (λ (o : Ops). ArePosted o.receives) (sym c.own-item.is) (own_at c.args.held.now 0 c.loop-own.own-index c.own-item.result c.loop-own-test.true c.requires).receives_rise

pub loop-own-preserved : goal.loop-own-preserved
loop-own-preserved c = All-more IsSingle c.args.held.now c.loop-own.own-index c.own-item.result c.loop-own-test.true c.loop-own.invariant
    (subst (λ (o : Ops). IsSingle o) c.own-item.is (c.has_several.ensures.single c.if-has_several.false))

pub returns-clause-single : goal.returns-clause-single
returns-clause-single c = λ _. subst (λ (l : List Ops). All IsSingle l) (take_all c.loop-own.own-index c.args.held.now (omega arith)) c.loop-own.invariant
