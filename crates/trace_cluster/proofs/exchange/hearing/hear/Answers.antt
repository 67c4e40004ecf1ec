use Rattle.trace_cluster.specs.Stream.{side}
use Rattle.trace_cluster.proofs.Leaving.{heard_one}
use Rattle.trace_cluster.proofs.exchange.hearing.hear.Goals as goal

pub returns-in-Ok-clause-value : goal.returns-in-Ok-clause-value
returns-in-Ok-clause-value g c =
    let old = c.args.reader.now in
    let new = c.heard_frame.new.reader in
    heard_one (side (g.R.Read.left old) (g.R.Read.failures old)) (side (g.R.Read.left new) (g.R.Read.failures new)) c.args.node.now c.merge_heard.new.node c.in-Ok.heard c.merge_heard.result c.in-Ok.ensures.value c.merge_heard.ensures
