use Rattle.std.proofs.Common.{◌∙◌, ◌∷◌, ◌++◌, [], ap, arith}
use Rattle.comm_makings.specs.declared.calls.RankRange.{RankRange}
use Rattle.comm_calls.proofs.Ranges.{range_more, ranges_left}
use Rattle.comm_calls.proofs.lists.ranges_of.Goals as goal

pub loop-at-preserved : goal.loop-at-preserved
loop-at-preserved c = record {
  within = omega arith;
  rest = range_more c.args.ints.now c.loop-at.at c.loop-at.ranges.items c.push.new.self.items c.loop-at-test.true (c.in_ok-push.ensures.items ∙ ap (λ (r : RankRange). c.loop-at.ranges.items ++ r ∷ []) c.range_at.ensures) c.loop-at.invariant.rest;
}

pub returns-else-at-ints : goal.returns-else-at-ints
returns-else-at-ints c = ranges_left c.args.ints.now c.loop-at.at c.loop-at.ranges.items c.loop-at.invariant.within c.loop-at-test.false c.if-at-ints.false c.loop-at.invariant.rest
