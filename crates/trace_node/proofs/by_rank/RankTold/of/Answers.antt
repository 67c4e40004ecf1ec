use Rattle.std.proofs.Common.{◌∙◌, ap}
use Rattle.trace_node.specs.Answer.{wall_of}
use Rattle.trace_node.proofs.by_rank.RankTold.of.Goals as goal

pub returns : goal.returns
returns c = record {
  reading = c.in_ok-reading.ensures;
  ops = c.in_ok-ops.ensures;
  wall = c.wall_of-wall.ensures ∙ ap (wall_of c.args.know.now c.args.rank) c.waiting_call.ensures;
}
