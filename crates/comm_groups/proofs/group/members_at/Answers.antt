use Rattle.std.proofs.Common.{◌≡◌, ℕ, ◌<◌, ◌≤◌, Some, None, length, get_or, arith, ap, ◌∙◌, sym}
use Rattle.std.specs.List.{slice_get}
use Rattle.std.proofs.lemmas.Option.{slice_get-get_or, slice_get_past}
use Rattle.comm_groups.proofs.Places.{members_more_some, members_more_none}
use Rattle.comm_groups.proofs.group.members_at.Goals as goal
use Rattle.comm_groups.proofs.group.members_at.Goals.{in-Some+in_ok-push, in_default}

pub loop-rank-preserved : goal.loop-rank-preserved
loop-rank-preserved c =
    let r : ℕ = get_or c.args.ranks.now c.loop-rank.rank-index 0 in
    let below : c.loop-rank.rank-index < length c.args.ranks.now = omega arith in
    elim c.match-get.branch [
      | in-Some+in_ok-push w ↦
          let found = w.in-Some.ensures.lookup in
          let here = slice_get-get_or c.args.group.now r 0 found.3.0 ∙ ap Some (sym (found.3.1 0)) in
          let more = members_more_some c.args.group.now c.args.ranks.now c.loop-rank.rank-index w.in-Some.member.now below here in
          let pushed = w.in_ok-push.ensures.items in
          let kept = w.members-is in
          cc
      | in_default w ↦
          let lost = w.in_default.ensures.lookup in
          let more = members_more_none c.args.group.now c.args.ranks.now c.loop-rank.rank-index below (slice_get_past c.args.group.now r lost.3) in
          let kept = w.members-is in
          cc
    ]
