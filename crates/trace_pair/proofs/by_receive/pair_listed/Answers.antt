use Rattle.trace_pair.proofs.Searched.{stands_there}
use Rattle.trace_pair.proofs.by_receive.pair_listed.Goals as goal

pub returns : goal.returns
returns c = stands_there c.args.pairs.now _ c.pair_at.result c.pair_at.ensures
