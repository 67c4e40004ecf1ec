use Rattle.std.proofs.Common.{◌<◌, length, arith, sym}
use Rattle.comm_makings.specs.Made.{member_at}
use Rattle.comm_makings.proofs.Places.{more_none, more_some}
use Rattle.comm_makings.proofs.run.members_at.Goals as goal
use Rattle.comm_makings.proofs.run.members_at.Goals.{in-Some+in_ok-push, in_default}

pub loop-place-preserved : goal.loop-place-preserved
loop-place-preserved c =
    let below : c.loop-place.place-index < length c.args.places.now = omega arith in
    elim c.match-member_at.branch [
      | in-Some+in_ok-push w ↦
          let more = more_some (member_at c.args.members.now c.args.all.now) c.args.places.now c.loop-place.place-index w.in-Some.member below (sym w.in-Some.ensures) in
          let pushed = w.in_ok-push.ensures.items in
          let kept = w.chosen-is in
          cc
      | in_default w ↦
          let more = more_none (member_at c.args.members.now c.args.all.now) c.args.places.now c.loop-place.place-index below (sym w.in_default.ensures) in
          let kept = w.chosen-is in
          cc
    ]
