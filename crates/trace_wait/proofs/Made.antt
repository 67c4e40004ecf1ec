-- Parts of posts that were made, one part more.
use Rattle.std.proofs.Common.{◌≡◌, ℕ, ℤ, Bool, true, false, Option, Some, refl, sym, ◌∙◌, ap, arith}
use Rattle.std.specs.Prelude.{if◌then◌else◌}
use Rattle.std.specs.Ordering.{int_eq}
use Rattle.std.proofs.lemmas.Bool.Decides.{nat_tests}
use Rattle.trace_stuck.specs.declared.condition.Condition.{Condition}
use Rattle.trace_stuck.specs.Shape.{shape}
use Rattle.trace_ops.specs.Ops.{Ops}
use Rattle.trace_wait.specs.Parts.{Run}
use Rattle.trace_wait.specs.Requests.{AreMade, request}

pub made_more : (s : Run) (r : ℕ) (o : Ops) (before after : ℤ → Option Condition) (n : ℤ) (part : Condition) →
    ((m : ℤ) → after m ≡ (if int_eq n m then Some part else before m)) → AreMade s r o before → shape part ≡ request s r o n → AreMade s r o after
made_more s r o before after n part is made here m c found = by (int_eq n m) refl (sym (is m) ∙ found)
  where
    by : (b : Bool) → int_eq n m ≡ b → (if b then Some part else before m) ≡ Some c → shape c ≡ request s r o m
    by true e h =
        let same : n ≡ m = grind (arith, nat_tests) in
        let is_part : part ≡ c = cc in
        ap shape (sym is_part) ∙ here ∙ ap (request s r o) same
    by false e h = made m c h
