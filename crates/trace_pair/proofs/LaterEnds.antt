-- The later of two ends.
use Rattle.std.proofs.Common.{◌≡◌, ◌⊎◌, ℕ, true, false, Option, Some, None, inl, inr, refl, arith, ltb}
use Rattle.std.specs.Prelude.{if◌then◌else◌}
use Rattle.std.proofs.lemmas.Bool.Decides.{nat_tests}
use Rattle.trace_pair.specs.Ends.{ends_by, later_end}

-- it is one of them
pub later_one : (a b : Option ℕ) → (later_end a b ≡ a) ⊎ (later_end a b ≡ b)
later_one None b = inl refl
later_one (Some x) None = inr refl
later_one (Some x) (Some y) =
    elim (ltb x y) as (λ t. ((if t then Some y else Some x) ≡ Some x) ⊎ ((if t then Some y else Some x) ≡ Some y)) [ true ↦ inr refl | false ↦ inl refl ]

-- and neither ends behind it
pub later_left : (a b : Option ℕ) → ends_by a (later_end a b) ≡ true
later_left None b = refl
later_left (Some x) None = refl
later_left (Some x) (Some y) =
    elim (ltb x y) as (λ t. ltb x y ≡ t → ends_by (Some x) (if t then Some y else Some x) ≡ true) [
      | true ↦ λ e. grind (arith, nat_tests)
      | false ↦ λ e. grind (arith, nat_tests)
    ] refl

pub later_right : (a b : Option ℕ) → ends_by b (later_end a b) ≡ true
later_right None None = refl
later_right None (Some y) = refl
later_right (Some x) None = refl
later_right (Some x) (Some y) =
    elim (ltb x y) as (λ t. ltb x y ≡ t → ends_by (Some y) (if t then Some y else Some x) ≡ true) [
      | true ↦ λ e. grind (arith, nat_tests)
      | false ↦ λ e. grind (arith, nat_tests)
    ] refl
