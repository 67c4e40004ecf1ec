use Rattle.std.proofs.Common.{◌∙◌, ap, arith, map, get_or}
use Rattle.trace_stuck.specs.Shape.{shape}
use Rattle.trace_node.specs.Answer.{shapes}
use Rattle.trace_node.specs.ByRank.{stopped_by}
use Rattle.trace_node.specs.Stopped.{stopped}
use Rattle.trace_node.proofs.Waits.{rising_below, stop_is, told_more}
use Rattle.trace_node.proofs.answer.gather.stuck_of.Goals as goal

pub loop-rank-preserved : goal.loop-rank-preserved
loop-rank-preserved c =
    let ranks = c.args.ranks.now in
    let i = c.loop-rank.rank-index in
    let rank = get_or ranks i 0 in
    let waits = shapes c.args.conditions.now in
    let lt = c.loop-rank-test.true in
    let same = c.loop-rank.invariant.later rank (λ k l. rising_below ranks c.requires i k l lt) in
    let here = stop_is c.args.walls.now c.args.ops.now waits rank c.call_of.result c.wall_at.result (shape c.wait_of.result) c.call_of.ensures c.wall_at.ensures
    (c.wait_of.ensures ∙ c.take_condition.ensures.taken ∙ same) in
    record {
      told = ap (map stopped) c.in_ok-push.ensures.items ∙ told_more stopped (stopped_by c.args.walls.now c.args.ops.now waits) c.loop-rank.all.items _ ranks i lt c.loop-rank.invariant.told here;
      later = λ r below. c.take_condition.ensures.later r (below i (omega arith)) ∙ c.loop-rank.invariant.later r (λ k l. below k (omega (arith, l)));
    }
