-- Keys that are one, and places that meet.
use Rattle.std.proofs.Common.{◌≡◌, ◌∙◌, ◌==◌, ◌&&◌, ℕ, Bool, not, Option, Some, None, refl, ap, arith}
use Rattle.std.specs.declared.cmp.Ordering.{Ordering}
use Rattle.std.specs.declared.cmp.Ordering.TheVariants.{Less, Equal, Greater}
use Rattle.std.specs.Ordering.{nat_cmp, ordering_then, is_eq}
use Rattle.std.specs.Option.{option_cmp}
use Rattle.std.specs.Cmp.{IsTotalOrder}
use Rattle.std.specs.Cmp.Lexicographic.{options_total}
use Rattle.std.proofs.lemmas.Bool.Decides.{nat_tests}
use Rattle.std.proofs.lemmas.Cmp.{on_total, then_total, nat_cmp_total}
use Rattle.trace_wait.specs.Patterns.{Pattern, pattern_cmp, same_option, same_pattern}
use Rattle.trace_diagnosis.specs.declared.near.Place.{Place}
use Rattle.trace_diagnosis.specs.Ways.{meets}

then_eq : (a b : Ordering) → is_eq (ordering_then a b) ≡ (is_eq a && is_eq b)
then_eq Less b = refl
then_eq Equal b = refl
then_eq Greater b = refl

nat_same : (a b : ℕ) → is_eq (nat_cmp a b) ≡ (a == b)
nat_same a b = grind (arith, nat_tests)

option_same : (a b : Option ℕ) → is_eq (option_cmp nat_cmp a b) ≡ same_option a b
option_same None None = refl
option_same None (Some b) = refl
option_same (Some a) None = refl
option_same (Some a) (Some b) = nat_same a b

both_same : (a b c d : Bool) → a ≡ b → c ≡ d → (a && c) ≡ (b && d)
both_same a b c d h k = ap (λ x. x && c) h ∙ ap (λ y. b && y) k

pub pattern_same : (a b : Pattern) → is_eq (pattern_cmp a b) ≡ same_pattern a b
pattern_same a b =
    let third = ordering_then (ordering_then (nat_cmp a.0 b.0) (nat_cmp a.1 b.1)) (option_cmp nat_cmp a.2 b.2) in
    let second = ordering_then (nat_cmp a.0 b.0) (nat_cmp a.1 b.1) in
    then_eq third (option_cmp nat_cmp a.3 b.3)
    ∙ both_same (is_eq third) ((a.0 == b.0) && (a.1 == b.1) && same_option a.2 b.2) (is_eq (option_cmp nat_cmp a.3 b.3)) (same_option a.3 b.3)
    (then_eq second (option_cmp nat_cmp a.2 b.2)
    ∙ both_same (is_eq second) ((a.0 == b.0) && (a.1 == b.1)) (is_eq (option_cmp nat_cmp a.2 b.2)) (same_option a.2 b.2)
    (then_eq (nat_cmp a.0 b.0) (nat_cmp a.1 b.1) ∙ both_same (is_eq (nat_cmp a.0 b.0)) (a.0 == b.0) (is_eq (nat_cmp a.1 b.1)) (a.1 == b.1) (nat_same a.0 b.0) (nat_same a.1 b.1))
    (option_same a.2 b.2))
    (option_same a.3 b.3)

pub patterns_total : IsTotalOrder pattern_cmp
patterns_total = then_total (then_total (then_total (on_total (λ (x : Pattern). x.0) nat_cmp_total) (on_total (λ (x : Pattern). x.1) nat_cmp_total)) (on_total (λ (x : Pattern). x.2) (options_total nat_cmp_total))) (on_total (λ (x : Pattern). x.3) (options_total nat_cmp_total))

pub flipped : (a b : ℕ) → (a == b) ≡ (b == a)
flipped a b = grind (arith, nat_tests)

flipped_option : (a b : Option ℕ) → same_option a b ≡ same_option b a
flipped_option None None = refl
flipped_option None (Some b) = refl
flipped_option (Some a) None = refl
flipped_option (Some a) (Some b) = flipped a b

pub meets_flipped : (a b : Place) → meets a b ≡ meets b a
meets_flipped a b =
    both_same _ _ _ _
    (both_same _ _ _ _ (both_same _ _ _ _ (both_same _ _ _ _ (flipped a.key.0 b.key.0) (flipped a.key.1 b.key.1)) (flipped_option a.key.2 b.key.2)) (flipped_option a.key.3 b.key.3))
    (ap not (flipped a.value b.value))
