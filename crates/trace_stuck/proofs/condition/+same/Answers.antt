use Rattle.std.proofs.Common.{◌≡◌, ◌∙◌, false, true, ap, sym, arith, Vec, Global, ℕ}
use Rattle.trace_stuck.specs.Shape.{shape, OnAll, OnOne}
use Rattle.trace_stuck.proofs.Orders.{nothing}
use Rattle.trace_stuck.proofs.Shapes.{all_of, one_of, same_all, same_one, same_parts_ranks, same_ranks_parts, same_ranks, shape_All, shape_AllRanks, shape_One, shape_OneRank, shapes_at}
use Rattle.trace_stuck.proofs.condition.+same.Goals as goal

pub are_same-returns-then-not-is_same : goal.are_same-returns-then-not-is_same
are_same-returns-then-not-is_same t c = (
  λ (h : false ≡ true). absurd (nothing h),
  λ h.
      let here = shapes_at c.args.first.now c.args.second.now c.loop-i.i c.index-first-i.result c.index-second-i.result
      c.loop-i-test.true (omega (arith, c.loop-i-test.true, c.loop-i.invariant.0)) h in
      sym c.if-not-is_same.true ∙ c.is_same.ensures.1 (ap shape c.index-first-i.is ∙ here ∙ sym (ap shape c.index-second-i.is)),
)

pub is_same-returns-in-All-All : goal.is_same-returns-in-All-All
is_same-returns-in-All-All t c =
    same_all c.args.first.now c.args.second.now c.in-All-All.parts c.in-All-All.others c.deref.result.now c.deref-in-All-All.result.now
    c.deref.ensures.value c.deref-in-All-All.ensures.value c.are_same.result c.are_same.ensures c.in-All-All.is-0 c.in-All-All.is-1

pub is_same-returns-in-One-One : goal.is_same-returns-in-One-One
is_same-returns-in-One-One t c =
    same_one c.args.first.now c.args.second.now c.in-One-One.parts c.in-One-One.others c.deref-in-One-One.result.now c.deref-in-One-One-2.result.now
    c.deref-in-One-One.ensures.value c.deref-in-One-One-2.ensures.value c.are_same-in-One-One.result c.are_same-in-One-One.ensures c.in-One-One.is-0 c.in-One-One.is-1

pub is_same-returns-in-One-OneRank : goal.is_same-returns-in-One-OneRank
is_same-returns-in-One-OneRank t c =
    same_parts_ranks OnOne one_of c.args.first.now c.args.second.now c.are_ranks-in-One-OneRank.result c.in-One-OneRank.parts.items c.in-One-OneRank.ranks.value.items c.deref-in-One-OneRank.result.now c.deref-in-One-OneRank-3.result.now
    c.deref-in-One-OneRank.ensures.value (c.deref-in-One-OneRank-3.ensures.value ∙ ap (λ (v : Vec ℕ Global). v.items) c.deref-in-One-OneRank-2.ensures)
    c.are_ranks-in-One-OneRank.ensures (ap shape c.in-One-OneRank.is-0 ∙ shape_One c.in-One-OneRank.parts) (ap shape c.in-One-OneRank.is-1 ∙ shape_OneRank c.in-One-OneRank.ranks)

pub is_same-returns-in-OneRank-One : goal.is_same-returns-in-OneRank-One
is_same-returns-in-OneRank-One t c =
    same_ranks_parts OnOne one_of c.args.first.now c.args.second.now c.are_ranks-in-OneRank-One.result c.in-OneRank-One.ranks.value.items c.in-OneRank-One.parts.items c.deref-in-OneRank-One.result.now c.deref-in-OneRank-One-3.result.now
    c.deref-in-OneRank-One.ensures.value (c.deref-in-OneRank-One-3.ensures.value ∙ ap (λ (v : Vec ℕ Global). v.items) c.deref-in-OneRank-One-2.ensures)
    c.are_ranks-in-OneRank-One.ensures (ap shape c.in-OneRank-One.is-0 ∙ shape_OneRank c.in-OneRank-One.ranks) (ap shape c.in-OneRank-One.is-1 ∙ shape_One c.in-OneRank-One.parts)

pub is_same-returns-in-OneRank-OneRank : goal.is_same-returns-in-OneRank-OneRank
is_same-returns-in-OneRank-OneRank t c =
    same_ranks OnOne one_of c.args.first.now c.args.second.now c.are_same_ranks.result c.in-OneRank-OneRank.ranks.value.items c.in-OneRank-OneRank.others.value.items c.deref-in-OneRank-OneRank-2.result.now c.deref-in-OneRank-OneRank-4.result.now
    (c.deref-in-OneRank-OneRank-2.ensures.value ∙ ap (λ (v : Vec ℕ Global). v.items) c.deref-in-OneRank-OneRank.ensures)
    (c.deref-in-OneRank-OneRank-4.ensures.value ∙ ap (λ (v : Vec ℕ Global). v.items) c.deref-in-OneRank-OneRank-3.ensures)
    c.are_same_ranks.ensures (ap shape c.in-OneRank-OneRank.is-0 ∙ shape_OneRank c.in-OneRank-OneRank.ranks) (ap shape c.in-OneRank-OneRank.is-1 ∙ shape_OneRank c.in-OneRank-OneRank.others)

pub is_same-returns-in-All-AllRanks : goal.is_same-returns-in-All-AllRanks
is_same-returns-in-All-AllRanks t c =
    same_parts_ranks OnAll all_of c.args.first.now c.args.second.now c.are_ranks.result c.in-All-AllRanks.parts.items c.in-All-AllRanks.ranks.value.items c.deref-in-All-AllRanks.result.now c.deref-in-All-AllRanks-3.result.now
    c.deref-in-All-AllRanks.ensures.value (c.deref-in-All-AllRanks-3.ensures.value ∙ ap (λ (v : Vec ℕ Global). v.items) c.deref-in-All-AllRanks-2.ensures)
    c.are_ranks.ensures (ap shape c.in-All-AllRanks.is-0 ∙ shape_All c.in-All-AllRanks.parts) (ap shape c.in-All-AllRanks.is-1 ∙ shape_AllRanks c.in-All-AllRanks.ranks)

pub is_same-returns-in-AllRanks-All : goal.is_same-returns-in-AllRanks-All
is_same-returns-in-AllRanks-All t c =
    same_ranks_parts OnAll all_of c.args.first.now c.args.second.now c.are_ranks-in-AllRanks-All.result c.in-AllRanks-All.ranks.value.items c.in-AllRanks-All.parts.items c.deref-in-AllRanks-All.result.now c.deref-in-AllRanks-All-3.result.now
    c.deref-in-AllRanks-All.ensures.value (c.deref-in-AllRanks-All-3.ensures.value ∙ ap (λ (v : Vec ℕ Global). v.items) c.deref-in-AllRanks-All-2.ensures)
    c.are_ranks-in-AllRanks-All.ensures (ap shape c.in-AllRanks-All.is-0 ∙ shape_AllRanks c.in-AllRanks-All.ranks) (ap shape c.in-AllRanks-All.is-1 ∙ shape_All c.in-AllRanks-All.parts)

pub is_same-returns-in-AllRanks-AllRanks : goal.is_same-returns-in-AllRanks-AllRanks
is_same-returns-in-AllRanks-AllRanks t c =
    same_ranks OnAll all_of c.args.first.now c.args.second.now c.are_same_ranks-in-AllRanks-AllRanks.result c.in-AllRanks-AllRanks.ranks.value.items c.in-AllRanks-AllRanks.others.value.items c.deref-in-AllRanks-AllRanks-2.result.now c.deref-in-AllRanks-AllRanks-4.result.now
    (c.deref-in-AllRanks-AllRanks-2.ensures.value ∙ ap (λ (v : Vec ℕ Global). v.items) c.deref-in-AllRanks-AllRanks.ensures)
    (c.deref-in-AllRanks-AllRanks-4.ensures.value ∙ ap (λ (v : Vec ℕ Global). v.items) c.deref-in-AllRanks-AllRanks-3.ensures)
    c.are_same_ranks-in-AllRanks-AllRanks.ensures (ap shape c.in-AllRanks-AllRanks.is-0 ∙ shape_AllRanks c.in-AllRanks-AllRanks.ranks) (ap shape c.in-AllRanks-AllRanks.is-1 ∙ shape_AllRanks c.in-AllRanks-AllRanks.others)
