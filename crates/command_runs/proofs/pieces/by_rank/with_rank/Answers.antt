use Rattle.command_runs.proofs.pieces.by_rank.with_rank.Goals as goal

pub returns-clause-ok : goal.returns-clause-ok
returns-clause-ok g c =
    let one = c.in_ok-one.ensures.ok in
    let jobs = c.args.ranks.now in
    (one.0, one.1, λ view was. c.in_ok-more.ensures jobs.run.now.layout.now c.args.rank one.0 one.3 view was one.2)
