use Rattle.std.proofs.Common.{sym}
use Rattle.command_line.proofs.Ranks.{no_rank, rank_of}
use Rattle.command_line.proofs.rank_in.Goals as goal

pub returns-in-Ok : goal.returns-in-Ok
returns-in-Ok c =
    let p = c.in-Ok.ensures.value.0 in
    sym (rank_of c.args.text.now c.in-Ok.rank p.0.0 p.0.1 p.1)

pub returns-in-Err : goal.returns-in-Err
returns-in-Err c = sym (no_rank c.args.text.now c.in-Err.ensures.value.0)
