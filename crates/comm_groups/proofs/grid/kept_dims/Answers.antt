use Rattle.std.proofs.Common.{◌≡◌, ◌<◌, length, arith}
use Rattle.comm_groups.proofs.Sizes.{kept_more_yes, kept_more_no}
use Rattle.comm_groups.proofs.grid.kept_dims.Goals as goal
use Rattle.comm_groups.proofs.grid.kept_dims.Goals.{then-remain-i+in_ok-push, else-remain-i}

pub loop-i-preserved : goal.loop-i-preserved
loop-i-preserved c =
    let below : c.loop-i.i < length c.args.dims.now = omega arith in
    let inside : c.loop-i.i < length c.args.remain.now = omega (arith, c.requires) in
    elim c.if-remain-i.branch [
      | then-remain-i+in_ok-push w ↦
          let more = kept_more_yes c.args.dims.now c.args.remain.now c.loop-i.kept.items c.loop-i.i below inside w.if-remain-i.true in
          let pushed = w.in_ok-push.ensures.items in
          let is = w.kept-is in
          let was = c.loop-i.invariant in
          cc
      | else-remain-i w ↦
          let more = kept_more_no c.args.dims.now c.args.remain.now c.loop-i.kept.items c.loop-i.i below inside w.if-remain-i.false in
          let is = w.kept-is in
          let was = c.loop-i.invariant in
          cc
    ]
