use Rattle.trace_pair.proofs.PutAt.{put_first}
use Rattle.trace_pair.proofs.groups.put_first.Goals as goal

pub returns-clause-ok : goal.returns-clause-ok
returns-clause-ok g c = put_first g.T.Ord.cmp g.met.K.Ord.total c.args.sets.now c.insert.new.self c.args.key c.one.result c.in_ok-insert.ensures.updates.0 c.args.x c.requires c.one.ensures
