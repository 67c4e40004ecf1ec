use Rattle.comm_makings.proofs.Right.{right_first}
use Rattle.comm_makings.proofs.run.start.Goals as goal

pub add-requires-clause-right : goal.add-requires-clause-right
add-requires-clause-right c =
    rw (c.in_ok-run.ensures.comms, c.in_ok-run.ensures.next, c.in_ok-run.ensures.inters)
    (right_first c.args.ranks.now c.args.views.now c.in_ok-run.run'.standings.items c.in_ok-run.run'.values.items c.in_ok-run.ensures.standings c.in_ok-run.ensures.values)
