use Rattle.std.proofs.Common.{◌≡◌, ◌∙◌, ◌≢◌, List, ℕ, true, false, subst, sym, take, take_all, refl, arith}
use Rattle.std.specs.List.{AllPairs}
use Rattle.trace_check.proofs.Lists.{apart_more, not_apart, nothing}
use Rattle.trace_check.proofs.verdict.is_each_once.Goals as goal

pub returns-then-is_among : goal.returns-then-is_among
returns-then-is_among c = (
  λ (h : false ≡ true). absurd (nothing h),
  λ apart. absurd (not_apart c.args.ranks.now c.loop-i.i c.loop-i-test.true (sym c.is_among.ensures ∙ c.if-is_among.true) apart),
)

pub loop-i-preserved : goal.loop-i-preserved
loop-i-preserved c = apart_more c.args.ranks.now c.loop-i.i c.loop-i-test.true (sym c.is_among.ensures ∙ c.if-is_among.false) c.loop-i.invariant

pub returns : goal.returns
returns c =
    let whole : take c.loop-i.i c.args.ranks.now ≡ c.args.ranks.now = take_all c.loop-i.i c.args.ranks.now (omega (arith, c.loop-i-test.false)) in
    (λ _. subst (λ (l : List ℕ). AllPairs (λ r s. r ≢ s) l) whole c.loop-i.invariant, λ _. refl)
