use Rattle.std.proofs.Common.{◌≡◌, ◌∙◌, List, get_or, false, true, ap, sym, arith}
use Rattle.std.proofs.lemmas.List.{get_or-map}
use Rattle.trace_node.specs.Answer.{Stopped}
use Rattle.trace_node.specs.Stopped.{stopped}
use Rattle.trace_node.proofs.answer.same.are_same_stuck.Goals as goal

nothing : false ≡ true → ⊥
nothing h = cc

pub returns-then-not-same : goal.returns-then-not-same
returns-then-not-same c = (
  λ (h : false ≡ true). absurd (nothing h),
  λ h.
      let a = c.index-first-i.result in
      let b = c.index-second-i.result in
      let left = get_or-map stopped c.args.first.now c.loop-i.i a (stopped a) c.loop-i-test.true in
      let right = get_or-map stopped c.args.second.now c.loop-i.i b (stopped a) (omega (arith, c.loop-i-test.true, c.loop-i.invariant.0)) in
      let here = sym left ∙ ap (λ (l : List Stopped). get_or l c.loop-i.i (stopped a)) h ∙ right in
      sym c.if-not-same.true ∙ c.same.ensures.1 (ap stopped c.index-first-i.is ∙ here ∙ sym (ap stopped c.index-second-i.is)),
)
