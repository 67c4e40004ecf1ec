use Rattle.std.proofs.Common.{◌<◌, List, All, map, refl, subst, sym}
use Rattle.std.proofs.lemmas.List.Elements.{All-push}
use Rattle.trace_wait.specs.declared.polls.Poll.{Poll}
use Rattle.trace_diagnosis.specs.Askers.{asked_plain, poll_plain}
use Rattle.trace_diagnosis.proofs.Lists.{append_step}
use Rattle.trace_diagnosis.proofs.conditions.push_polls.Goals as goal

pub loop-one-preserved : goal.loop-one-preserved
loop-one-preserved c = record {
  there = λ count lt all. subst (λ (l : List Poll). All (λ p. p.rank < count) l) (sym c.in_ok-push.ensures.items) (All-push (λ p. p.rank < count) c.loop-one.polls.items _ (c.loop-one.invariant.there count lt all) lt);
  polls = append_step poll_plain (λ a. (c.args.rank, asked_plain a)) (map poll_plain c.args.polls.now.items) c.loop-one.polls.items _ _ c.args.asked.now c.loop-one.one-index c.one-item.result c.in_ok-push.ensures.items c.loop-one.invariant.polls refl c.loop-one-test.true c.one-item.is;
}
