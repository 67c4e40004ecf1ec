use Rattle.std.proofs.Common.{◌∙◌, ap, arith}
use Rattle.trace_stuck.specs.Queue.{flag}
use Rattle.trace_stuck.proofs.Lefts.{raised, not_raised}
use Rattle.trace_stuck.proofs.verdict.raise.Goals as goal
use Rattle.trace_stuck.proofs.verdict.raise.Goals.{then-at-flags, else-at-flags}

pub loop-r-preserved : goal.loop-r-preserved
loop-r-preserved c = λ s lt. elim c.if-at-flags.branch [
  | then-at-flags w ↦ ap (λ l. flag l s) w.flags-is ∙ raised c.args.flags.now c.loop-r.flags c.args.ranks.now c.loop-r.r-index s c.loop-r-test.true (c.loop-r.invariant s lt) w.if-at-flags.true
  | else-at-flags w ↦ ap (λ l. flag l s) w.flags-is ∙ not_raised c.args.flags.now c.loop-r.flags c.args.ranks.now c.loop-r.r-index s c.loop-r-test.true (c.loop-r.invariant s lt) (omega (arith, c.loop-r.auto.flags)) w.if-at-flags.false
]
