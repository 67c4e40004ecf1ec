use Rattle.trace_pair.proofs.Keyed.{row_here}
use Rattle.trace_pair.proofs.by_key.row_of.Goals as goal

pub returns-then-is_key_at-clause-told : goal.returns-then-is_key_at-clause-told
returns-then-is_key_at-clause-told g c = row_here g.met.K.Ord.total c.args.rows.now c.args.index.now c.requires c.args.guess c.args.key.now (c.is_key_at.ensures c.if-is_key_at.true)
