use Rattle.std.proofs.Common.{◌∙◌, pos, sym}
use Rattle.comm_makings.specs.declared.calls.RankRange.{RankRange}
use Rattle.comm_makings.proofs.Walks.{ranges_end, ranges_more}
use Rattle.comm_makings.proofs.group_value.ranges_of.Goals as goal

pub returns-in-None : goal.returns-in-None
returns-in-None c =
    let d : RankRange = record { first = pos 0; last = pos 0; stride = pos 0 } in
    ranges_end c.args.ranges.now c.loop-range.range-index d c.loop-range-test.true c.loop-range.all.items (sym c.in-None.ensures) ∙ c.loop-range.invariant

pub loop-range-preserved : goal.loop-range-preserved
loop-range-preserved c =
    let d : RankRange = record { first = pos 0; last = pos 0; stride = pos 0 } in
    rw c.in_ok-push-in-Some.ensures.items
    (ranges_more c.args.ranges.now c.loop-range.range-index d c.loop-range-test.true c.loop-range.all.items c.in-Some.range (sym c.in-Some.ensures) ∙ c.loop-range.invariant)
