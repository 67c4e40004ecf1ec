use Rattle.std.proofs.Common.{◌∙◌, arith}
use Rattle.comm_makings.proofs.Holders.{counts_more}
use Rattle.comm_makings.proofs.uses.counts_of.Goals as goal

pub loop-group-preserved : goal.loop-group-preserved
loop-group-preserved c = record {
  counts = counts_more c.args.held.now c.loop-group.group-index _ c.loop-group.counts.items c.add.new.counts.items (omega arith) c.loop-group.invariant.counts c.add.ensures.counts;
  each = c.add.ensures.each ∙ c.loop-group.invariant.each;
}
