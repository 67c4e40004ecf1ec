use Rattle.std.proofs.Common.{◌≡◌, ◌<◌, length, get_or, arith, ◌∙◌}
use Rattle.std.proofs.lemmas.List.{length-set}
use Rattle.comm_groups.proofs.Apart.{placed_more}
use Rattle.comm_groups.proofs.told.places_of.Goals as goal

pub loop-i-preserved : goal.loop-i-preserved
loop-i-preserved c =
    let below : c.loop-i.i < length c.args.told.now = omega arith in
    record {
      same = length-set c.loop-i.order.items (get_or c.args.told.now c.loop-i.i 0) c.loop-i.i ∙ c.loop-i.invariant.same;
      placed = placed_more c.args.told.now c.loop-i.order.items c.loop-i.i c.requires below c.loop-i.invariant.same c.loop-i.invariant.placed;
    }
