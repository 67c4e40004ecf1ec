use Rattle.std.proofs.Common.{◌≡◌, ◌∙◌, false, true, ap, sym, arith}
use Rattle.trace_stuck.specs.Shape.{shape}
use Rattle.trace_stuck.proofs.Orders.{nothing}
use Rattle.trace_stuck.proofs.Shapes.{ranks_at}
use Rattle.trace_stuck.proofs.condition.are_ranks.Goals as goal

pub returns-then-not-is_rank : goal.returns-then-not-is_rank
returns-then-not-is_rank c = (
  λ (h : false ≡ true). absurd (nothing h),
  λ h.
      let here = ranks_at c.args.parts.now c.args.ranks.now c.loop-i.i c.index-parts-i.result 0
      c.loop-i-test.true (omega (arith, c.loop-i-test.true, c.loop-i.invariant.0)) h in
      sym c.if-not-is_rank.true ∙ c.is_rank.ensures.1 (ap shape c.index-parts-i.is ∙ here),
)
