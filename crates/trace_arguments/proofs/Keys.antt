-- Two calls are one just where their ranks and their numbers are.
use Rattle.std.proofs.Common.{◌≡◌, ◌∙◌, ℕ, Bool, ◌&&◌, ap, ap₂, arith, refl}
use Rattle.std.specs.Prelude.{◌==◌}
use Rattle.std.specs.Ordering.{is_eq, nat_cmp, ordering_then}
use Rattle.std.specs.declared.cmp.Ordering.{Ordering}
use Rattle.std.specs.declared.cmp.Ordering.TheVariants.{Less, Equal, Greater}
use Rattle.std.proofs.lemmas.Bool.Decides.{nat_tests}
use Rattle.trace_wait.specs.Patterns.{Place, place_cmp}

then_eq : (a b : Ordering) → is_eq (ordering_then a b) ≡ (is_eq a && is_eq b)
then_eq Less b = refl
then_eq Equal b = refl
then_eq Greater b = refl

nat_same : (a b : ℕ) → is_eq (nat_cmp a b) ≡ (a == b)
nat_same a b = grind (arith, nat_tests)

pub place_same : (a b : Place) → is_eq (place_cmp a b) ≡ ((a.0 == b.0) && (a.1 == b.1))
place_same a b = then_eq (nat_cmp a.0 b.0) (nat_cmp a.1 b.1) ∙ ap₂ (λ (x y : Bool). x && y) (nat_same a.0 b.0) (nat_same a.1 b.1)
