use Rattle.trace_pair.proofs.Ranked.{kept_fresh}
use Rattle.trace_pair.proofs.index.PairIndex.new.Goals as goal

pub invariant_of-result : goal.invariant_of-result
invariant_of-result c = kept_fresh _ c.args.ranks c.in_ok-fresh_ops.ensures
