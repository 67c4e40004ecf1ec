use Rattle.command_runs.proofs.ByRank.{higher}
use Rattle.command_runs.proofs.RankReads.{risen}
use Rattle.command_runs.proofs.pieces.rank_reads.share_of_rank.Goals as goal

pub returns : goal.returns
returns c =
    let pieces = c.args.pieces.now in
    let rank = c.args.rank in
    let start = c.start_of_rank-start.result in
    let end = c.end_of_rank-end.result in
    record {
      order = c.end_of_rank-end.ensures.bound.0;
      bound = c.end_of_rank-end.ensures.bound.1;
      lower = c.start_of_rank-start.ensures.lower;
      own = c.end_of_rank-end.ensures.own;
      higher = higher pieces rank start end c.requires (risen pieces rank start c.requires c.start_of_rank-start.ensures.next) c.end_of_rank-end.ensures.bound.0 c.end_of_rank-end.ensures.next;
    }
