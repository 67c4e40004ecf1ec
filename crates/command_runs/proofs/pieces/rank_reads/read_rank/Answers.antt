use Rattle.dumpi_text.specs.Failing.{Fails}
use Rattle.command_runs.proofs.RankReads.{same_share}
use Rattle.command_runs.proofs.pieces.rank_reads.read_rank.Goals as goal

pub returns : goal.returns
returns g c =
    let told = c.told_of_rank-told.ensures in
    same_share (g.O.Opener.file c.args.run.now.files.now) (Fails g.O.R.Read.failures) c.args.run.now.layout.now c.args.pieces.now c.args.rank _ _ _
    c.share_of_rank-share.ensures (record { ok = told.ok; err = told.err; failed = told.failed })
