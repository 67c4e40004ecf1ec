use Rattle.trace_arguments.specs.Arguments.{told_in}
use Rattle.trace_arguments.proofs.Lists.{flat_more}
use Rattle.trace_arguments.proofs.arguments.told_among.Goals as goal

pub loop-round-preserved : goal.loop-round-preserved
loop-round-preserved c = record {
  headings = flat_more (told_in c.args.layout.now c.args.entries.now c.args.calls.now) c.args.rounds.now c.loop-round.round-index c.round-item.result _ _ c.loop-round-test.true c.round-item.is
      c.loop-round.invariant.headings c.in_ok-push_round.ensures.headings;
  groups = c.in_ok-push_round.ensures.groups c.loop-round.invariant.groups;
}
