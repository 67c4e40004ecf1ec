use Rattle.command_runs.proofs.pieces.by_rank.told_of_rank.Goals as goal

pub returns-clause-ok : goal.returns-clause-ok
returns-clause-ok g c = (c.in_ok-know.know, c.in_ok-know.ensures.ok, c.in_ok-know.ensures.of, c.in_ok-told.ensures)
