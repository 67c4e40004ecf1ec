use Rattle.std.proofs.Common.{◌≡◌, ℕ, ◌<◌, true, false, Some, None, length, get_or, arith}
use Rattle.std.specs.List.{slice_get}
use Rattle.std.proofs.lemmas.Grind.{common_steps}
use Rattle.std.proofs.lemmas.Option.{slice_get-get_or}
use Rattle.comm_groups.specs.Groups.{has}
use Rattle.comm_groups.proofs.Places.{without_more_kept, without_more_left}
use Rattle.comm_groups.proofs.group.members_without.Goals as goal
use Rattle.comm_groups.proofs.group.members_without.Goals.{then-not-contains+in_ok-push, else-not-contains}

pub loop-i-preserved : goal.loop-i-preserved
loop-i-preserved c =
    let below : c.loop-i.i < length c.args.group.now = omega arith in
    elim c.if-not-contains.branch [
      | then-not-contains+in_ok-push w ↦
          let lacks : has c.args.ranks.now c.loop-i.i ≡ false = grind (arith, common_steps, c.in_ok-set.ensures c.loop-i.i) in
          let here : slice_get c.args.group.now c.loop-i.i ≡ Some (get_or c.args.group.now c.loop-i.i 0) = slice_get-get_or c.args.group.now c.loop-i.i 0 below in
          grind (arith, common_steps, without_more_kept c.args.group.now c.args.ranks.now c.loop-i.i (get_or c.args.group.now c.loop-i.i 0) lacks here)
      | else-not-contains w ↦
          let named : has c.args.ranks.now c.loop-i.i ≡ true = grind (arith, common_steps, c.in_ok-set.ensures c.loop-i.i) in
          grind (arith, common_steps, without_more_left c.args.group.now c.args.ranks.now c.loop-i.i named)
    ]
