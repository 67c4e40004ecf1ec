use Rattle.std.proofs.Common.{sym}
use Rattle.comm_makings.proofs.GroupCalls.{some_more}
use Rattle.comm_makings.proofs.by_groups.only_at.Goals as goal
use Rattle.comm_makings.proofs.by_groups.only_at.Goals.{in-Some, in_default}

pub loop-place-preserved : goal.loop-place-preserved
loop-place-preserved c = elim c.match-at_place.branch [
  | in-Some w ↦ rw w.only-is (rw w.put.ensures (some_more c.args.all.now c.loop-place.only.items _ _ c.loop-place.invariant (sym w.in-Some.ensures)))
  | in_default w ↦ rw w.only-is c.loop-place.invariant
]
