use Rattle.std.proofs.Common.{◌≡◌, ◌∙◌, List, get_or, false, true, ap, sym, arith, length, refl}
use Rattle.std.proofs.lemmas.List.{get_or_read_under}
use Rattle.trace_wait.specs.declared.round.Round.{Round}
use Rattle.trace_node.proofs.answer.same.are_same_rounds.Goals as goal

nothing : false ≡ true → ⊥
nothing h = cc

pub returns-then-not-is_same_round : goal.returns-then-not-is_same_round
returns-then-not-is_same_round c = (
  λ (h : false ≡ true). absurd (nothing h),
  λ h.
      let a = c.index-first-i.result in
      let b = c.index-second-i.result in
      let there = get_or_read_under c.args.second.now c.loop-i.i (length c.args.second.now) b a c.index-second-i.is (omega (arith, c.loop-i-test.true, c.loop-i.invariant.0)) refl in
      let here = ap (λ (l : List Round). get_or l c.loop-i.i a) h ∙ sym there in
      sym c.if-not-is_same_round.true ∙ c.is_same_round.ensures.1 (c.index-first-i.is ∙ here),
)
