use Rattle.std.proofs.Common.{rules}
use Rattle.comm_makings.proofs.Holders.{added_at, added_nowhere}
use Rattle.comm_makings.proofs.uses.add_at.Goals as goal

pub returns-then-at-len-clause-counts : goal.returns-then-at-len-clause-counts
returns-then-at-len-clause-counts c = added_at c.args.counts.now.items c.args.at c.args.more c.saturating_add.result c.index.result.now (search rules) (search rules)

pub returns-else-at-len-clause-counts : goal.returns-else-at-len-clause-counts
returns-else-at-len-clause-counts c = added_nowhere c.args.counts.now.items c.args.at c.args.more (search rules)
