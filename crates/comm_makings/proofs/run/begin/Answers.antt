use Rattle.comm_makings.proofs.Right.{all_listed_more, stands_more}
use Rattle.comm_makings.proofs.run.begin.Goals as goal

pub returns-clause-standings : goal.returns-clause-standings
returns-clause-standings c =
    rw c.in_ok-push.ensures.items (stands_more c.args.run.now.standings.items c.in_ok-first_standings.field-0 c.requires.standings c.in_ok-first_standings.ensures)

pub returns-clause-values : goal.returns-clause-values
returns-clause-values c =
    rw c.in_ok-push-2.ensures.items (all_listed_more c.args.run.now.values.items c.in_ok-first_values.field-0 c.requires.values c.in_ok-first_values.ensures)
