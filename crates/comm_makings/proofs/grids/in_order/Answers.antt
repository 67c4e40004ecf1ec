use Rattle.std.proofs.Common.{ℕ, ◌<◌, Some, length, get_or, arith, ap, ◌∙◌, sym}
use Rattle.std.specs.List.{slice_get}
use Rattle.std.proofs.lemmas.Option.{slice_get-get_or, slice_get_past}
use Rattle.comm_makings.proofs.Places.{more_none, more_some}
use Rattle.comm_makings.proofs.grids.in_order.Goals as goal
use Rattle.comm_makings.proofs.grids.in_order.Goals.{in-Some+in_ok-push, in_default}

pub loop-at-preserved : goal.loop-at-preserved
loop-at-preserved c =
    let i : ℕ = get_or c.args.order.now c.loop-at.at-index 0 in
    let below : c.loop-at.at-index < length c.args.order.now = omega arith in
    elim c.match-get.branch [
      | in-Some+in_ok-push w ↦
          let found = w.in-Some.ensures.lookup in
          let here = slice_get-get_or c.args.places.now i 0 found.3.0 ∙ ap Some (sym (found.3.1 0)) in
          let more = more_some (slice_get c.args.places.now) c.args.order.now c.loop-at.at-index w.in-Some.place.now below here in
          let pushed = w.in_ok-push.ensures.items in
          let kept = w.ordered-is in
          cc
      | in_default w ↦
          let lost = w.in_default.ensures.lookup in
          let more = more_none (slice_get c.args.places.now) c.args.order.now c.loop-at.at-index below (slice_get_past c.args.places.now i lost.3) in
          let kept = w.ordered-is in
          cc
    ]
