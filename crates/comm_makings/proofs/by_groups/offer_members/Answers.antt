use Rattle.std.proofs.Common.{◌≡◌, ◌∙◌, ap, arith}
use Rattle.std.specs.List.{slice_get}
use Rattle.std.proofs.lemmas.Option.{slice_get-get_or}
use Rattle.comm_makings.proofs.GroupCalls.{right_join}
use Rattle.comm_makings.proofs.by_groups.offer_members.Goals as goal
use Rattle.comm_makings.proofs.by_groups.offer_members.Goals.{in-Ok+in_ok-waited+in_ok-append+in_ok-push, in_default}

pub loop-at-preserved : goal.loop-at-preserved
loop-at-preserved c = elim c.match-try_from.branch [
  | in-Ok+in_ok-waited+in_ok-append+in_ok-push w ↦
      let at : w.in-Ok.place ≡ c.loop-at.at = omega arith in
      rw w.calls-is (rw w.in_ok-append.ensures.items
      (right_join c.args.ranks.now c.args.views.now c.args.run.now.values.items c.args.run.now.comms.items c.args.members.now c.loop-at.calls.items _ _ w.in-Ok.place
      c.loop-at.invariant (ap (slice_get c.args.members.now) at ∙ slice_get-get_or c.args.members.now c.loop-at.at _ c.loop-at-test.true) w.in_ok-waited.ensures))
  | in_default w ↦ rw w.calls-is c.loop-at.invariant
]
