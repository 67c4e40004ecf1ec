use Rattle.std.proofs.Common.{◌∙◌, sym}
use Rattle.comm_makings.proofs.Walks.{told_end, told_more, told_past}
use Rattle.comm_makings.proofs.grids.told_ranks.Goals as goal
use Rattle.comm_makings.proofs.grids.told_ranks.Goals.{in-Some+in-Some-told_here+in_ok-push-in-Some-told_here, in_default}

pub returns-in-None : goal.returns-in-None
returns-in-None c =
    told_end c.args.views.now c.args.all.now c.loop-here.here-index c.loop-here-test.true c.loop-here.told.items c.in-Some.handle (sym c.in-Some.ensures) (sym c.in-None.ensures)
    ∙ c.loop-here.invariant

pub loop-here-preserved : goal.loop-here-preserved
loop-here-preserved c = elim c.match-handle_of.branch [
  | in-Some+in-Some-told_here+in_ok-push-in-Some-told_here w ↦
      rw w.told-is (rw w.in_ok-push-in-Some-told_here.ensures.items
      (told_more c.args.views.now c.args.all.now c.loop-here.here-index c.loop-here-test.true c.loop-here.told.items w.in-Some.handle w.in-Some-told_here.rank
      (sym w.in-Some.ensures) (sym w.in-Some-told_here.ensures) ∙ c.loop-here.invariant))
  | in_default w ↦
      rw w.told-is
      (told_past c.args.views.now c.args.all.now c.loop-here.here-index c.loop-here-test.true c.loop-here.told.items (sym w.in_default.ensures) ∙ c.loop-here.invariant)
]
