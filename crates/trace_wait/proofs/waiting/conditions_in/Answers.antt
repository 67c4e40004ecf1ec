use Rattle.std.proofs.Common.{List, map, ◌∙◌, ap, sym, subst}
use Rattle.trace_ops.specs.Ops.{Ops}
use Rattle.trace_ops.specs.Order.{AreCalledInOrder, AreEntered, AreInOrder, ArePosted}
use Rattle.trace_wait.specs.Ranks.{ops_of}
use Rattle.trace_wait.proofs.Before.{ops_at}
use Rattle.trace_wait.proofs.Searches.{own_at}
use Rattle.std.specs.Option.{option_map}
use Rattle.trace_stuck.specs.Shape.{shape}
use Rattle.trace_wait.proofs.Steps.{conditions_step}
use Rattle.trace_wait.proofs.waiting.conditions_in.Goals as goal

pub loop-r-preserved : goal.loop-r-preserved
loop-r-preserved c =
    ap (map (option_map shape)) c.in_ok-push.ensures.items
    ∙ conditions_step c.args.run.now c.args.ops.now c.loop-r.r c.index-ops-r.result c.loop-r.out.items c.in_ok-condition_of.field-0 c.loop-r-test.true c.index-ops-r.is c.loop-r.invariant c.in_ok-condition_of.ensures

pub condition_of-requires-clause-sends : goal.condition_of-requires-clause-sends
condition_of-requires-clause-sends c =
    subst (λ (o : Ops). AreInOrder o.sends) (sym c.index-ops-r.is) (own_at 0 c.args.ops.now c.loop-r.r c.index-ops-r.result c.requires.own c.loop-r-test.true).sends

pub condition_of-requires-clause-receives : goal.condition_of-requires-clause-receives
condition_of-requires-clause-receives c =
    subst (λ (o : Ops). ArePosted o.receives) (sym c.index-ops-r.is) (own_at 0 c.args.ops.now c.loop-r.r c.index-ops-r.result c.requires.own c.loop-r-test.true).receives

pub condition_of-requires-clause-cancelled : goal.condition_of-requires-clause-cancelled
condition_of-requires-clause-cancelled c =
    subst (λ (o : Ops). AreCalledInOrder o.cancelled) (sym c.index-ops-r.is) (own_at 0 c.args.ops.now c.loop-r.r c.index-ops-r.result c.requires.own c.loop-r-test.true).cancelled

pub condition_of-requires-clause-rank : goal.condition_of-requires-clause-rank
condition_of-requires-clause-rank c = record {
  same = ap (λ (l : List Ops). ops_of l c.loop-r.r) c.requires.run ∙ ops_at c.args.ops.now c.loop-r.r c.index-ops-r.result c.loop-r-test.true ∙ sym c.index-ops-r.is;
  rounds_rise = subst (λ (o : Ops). AreEntered o.rounds) (sym c.index-ops-r.is) (own_at 0 c.args.ops.now c.loop-r.r c.index-ops-r.result c.requires.own c.loop-r-test.true).rounds;
}
