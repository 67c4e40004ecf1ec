use Rattle.comm_makings.proofs.Firsts.{first_more}
use Rattle.comm_makings.proofs.run.first_returned.Goals as goal

pub loop-place-preserved : goal.loop-place-preserved
loop-place-preserved c =
    rw c.smaller-first.ensures
    (first_more c.args.places.now c.args.all.now c.loop-place.place-index c.loop-place.first c.returned_at.result c.loop-place-test.true c.loop-place.invariant c.returned_at.ensures)
