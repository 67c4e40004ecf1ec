use Rattle.std.proofs.Common.{◌∙◌, ap, sym}
use Rattle.trace_node.specs.ByRank.{walls_of}
use Rattle.trace_node.proofs.ByRank.{walls_alike}
use Rattle.trace_node.proofs.by_rank.RankByRank.of_all.Goals as goal

pub returns : goal.returns
returns c = record {
  below = c.requires;
  reading = c.in_ok-reading.ensures;
  ops = c.in_ok-ops.ensures;
  walls = c.in_ok-walls.ensures ∙ ap (walls_of c.args.layout.now c.args.know.now) c.deref.ensures.value
      ∙ sym (walls_alike c.args.layout.now c.args.know.now c.in_ok-ops.ops.items c.args.layout.now.ranks c.in_ok-ops.ensures);
}
