-- Names and patterns as keys of ordered sets and maps.
use Rattle.std.proofs.Common.{◌≡◌, ◌∙◌, ℕ, Bool, true, false, ◌&&◌, Option, Some, None, ap, arith, refl, sym}
use Rattle.std.specs.Prelude.{◌==◌}
use Rattle.std.specs.declared.cmp.Ordering.{Ordering}
use Rattle.std.specs.declared.cmp.Ordering.TheVariants.{Less, Equal, Greater}
use Rattle.std.specs.Ordering.{is_eq, nat_cmp, ordering_then}
use Rattle.std.specs.Option.{option_cmp}
use Rattle.std.proofs.lemmas.Bool.Decides.{nat_tests}
use Rattle.mpi_model.specs.declared.event.OpName.{OpName}
use Rattle.trace_pair.specs.KeyOrders.{name_cmp}
use Rattle.trace_pair.specs.Table.{same_name}
use Rattle.trace_wait.specs.Patterns.{Pattern, pattern_cmp, same_option, same_pattern}

then_eq : (a b : Ordering) → is_eq (ordering_then a b) ≡ (is_eq a && is_eq b)
then_eq Less b = refl
then_eq Equal b = refl
then_eq Greater b = refl

nat_same : (a b : ℕ) → is_eq (nat_cmp a b) ≡ (a == b)
nat_same a b = grind (arith, nat_tests)

option_same : (a b : Option ℕ) → is_eq (option_cmp nat_cmp a b) ≡ same_option a b
option_same None None = refl
option_same None (Some b) = refl
option_same (Some a) None = refl
option_same (Some a) (Some b) = nat_same a b

both_same : (a b c d : Bool) → a ≡ b → c ≡ d → (a && c) ≡ (b && d)
both_same a b c d h k = ap (λ x. x && c) h ∙ ap (λ y. b && y) k

-- names are one where they compare as equal
pub name_same : (a b : OpName) → is_eq (name_cmp a b) ≡ same_name a b
name_same a b =
    let second = ordering_then (nat_cmp a.call b.call) (nat_cmp a.part b.part) in
    then_eq (nat_cmp a.rank b.rank) second
    ∙ both_same (is_eq (nat_cmp a.rank b.rank)) (a.rank == b.rank) (is_eq second) ((a.call == b.call) && (a.part == b.part)) (nat_same a.rank b.rank)
    (then_eq (nat_cmp a.call b.call) (nat_cmp a.part b.part)
    ∙ both_same (is_eq (nat_cmp a.call b.call)) (a.call == b.call) (is_eq (nat_cmp a.part b.part)) (a.part == b.part) (nat_same a.call b.call) (nat_same a.part b.part))

-- and patterns
pub pattern_same : (a b : Pattern) → is_eq (pattern_cmp a b) ≡ same_pattern a b
pattern_same a b =
    let third = ordering_then (ordering_then (nat_cmp a.0 b.0) (nat_cmp a.1 b.1)) (option_cmp nat_cmp a.2 b.2) in
    let second = ordering_then (nat_cmp a.0 b.0) (nat_cmp a.1 b.1) in
    then_eq third (option_cmp nat_cmp a.3 b.3)
    ∙ both_same (is_eq third) ((a.0 == b.0) && (a.1 == b.1) && same_option a.2 b.2) (is_eq (option_cmp nat_cmp a.3 b.3)) (same_option a.3 b.3)
    (then_eq second (option_cmp nat_cmp a.2 b.2)
    ∙ both_same (is_eq second) ((a.0 == b.0) && (a.1 == b.1)) (is_eq (option_cmp nat_cmp a.2 b.2)) (same_option a.2 b.2)
    (then_eq (nat_cmp a.0 b.0) (nat_cmp a.1 b.1) ∙ both_same (is_eq (nat_cmp a.0 b.0)) (a.0 == b.0) (is_eq (nat_cmp a.1 b.1)) (a.1 == b.1) (nat_same a.0 b.0) (nat_same a.1 b.1))
    (option_same a.2 b.2))
    (option_same a.3 b.3)

left : (a b : Bool) → (a && b) ≡ true → a ≡ true
left true b h = refl
left false b h = absurd (cc)

right : (a b : Bool) → (a && b) ≡ true → b ≡ true
right true b h = h
right false b h = absurd (cc)

nat_one : (a b : ℕ) → (a == b) ≡ true → a ≡ b
nat_one a b h = grind (arith, nat_tests)

option_one : (a b : Option ℕ) → same_option a b ≡ true → a ≡ b
option_one None None h = refl
option_one None (Some b) h = absurd (cc)
option_one (Some a) None h = absurd (cc)
option_one (Some a) (Some b) h = ap (λ (n : ℕ). Some n) (nat_one a b h)

abbrev of_parts : ℕ → ℕ → Option ℕ → Option ℕ → Pattern
of_parts c t s g = (c, t, s, g)

made : (a b c d : ℕ) (s t u v : Option ℕ) → a ≡ b → c ≡ d → s ≡ t → u ≡ v → of_parts a c s u ≡ of_parts b d t v
made a b c d s t u v e f g h =
    ap (λ (x : ℕ). of_parts x c s u) e ∙ ap (λ (x : ℕ). of_parts b x s u) f
    ∙ ap (λ (x : Option ℕ). of_parts b d x u) g ∙ ap (λ (x : Option ℕ). of_parts b d t x) h

-- a pattern that compares as equal is it
pub pattern_one : (a b : Pattern) → is_eq (pattern_cmp a b) ≡ true → a ≡ b
pattern_one a b h =
    let all = sym (pattern_same a b) ∙ h in
    let three = left ((a.0 == b.0) && (a.1 == b.1) && same_option a.2 b.2) (same_option a.3 b.3) all in
    let two = left ((a.0 == b.0) && (a.1 == b.1)) (same_option a.2 b.2) three in
    made a.0 b.0 a.1 b.1 a.2 b.2 a.3 b.3
    (nat_one a.0 b.0 (left (a.0 == b.0) (a.1 == b.1) two)) (nat_one a.1 b.1 (right (a.0 == b.0) (a.1 == b.1) two))
    (option_one a.2 b.2 (right ((a.0 == b.0) && (a.1 == b.1)) (same_option a.2 b.2) three))
    (option_one a.3 b.3 (right ((a.0 == b.0) && (a.1 == b.1) && same_option a.2 b.2) (same_option a.3 b.3) all))

nat_itself : (a : ℕ) → (a == a) ≡ true
nat_itself a = grind (arith, nat_tests)

option_itself : (a : Option ℕ) → same_option a a ≡ true
option_itself None = refl
option_itself (Some a) = nat_itself a

four_true : (a b c d : Bool) → a ≡ true → b ≡ true → c ≡ true → d ≡ true → (a && b && c && d) ≡ true
four_true a b c d e f g h = cc

pub pattern_itself : (a : Pattern) → is_eq (pattern_cmp a a) ≡ true
pattern_itself a = pattern_same a a ∙ four_true _ _ _ _ (nat_itself a.0) (nat_itself a.1) (option_itself a.2) (option_itself a.3)
