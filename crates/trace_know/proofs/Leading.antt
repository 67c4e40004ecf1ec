-- What a test gives from 0 on, up to the first nothing.
use Rattle.std.proofs.Common.{◌≡◌, ℕ, zero, suc, ◌<◌, ◌≤◌, Option, Some, None, List, [], ◌∷◌, length, refl, sym, subst, ◌∙◌, ◌⊎◌, inl, inr, arith}
use Rattle.std.specs.Prelude.{IsSome}
use Rattle.std.specs.List.{slice_get}
use Rattle.std.proofs.lemmas.Bool.{cases_lt}
use Rattle.trace_know.specs.Prefix.{IsLeading, before, leading}

pub later : {X : Type 0} (at : ℕ → Option X) (x : X) (xs : List X) → IsLeading at (x ∷ xs) → IsLeading (λ i. at (suc i)) xs
later at x xs h = record { each = λ i l. h.each (suc i) (omega arith); end = h.end }

pub one_leading : {X : Type 0} (at : ℕ → Option X) (xs ys : List X) → IsLeading at xs → IsLeading at ys → xs ≡ ys
one_leading at [] [] h k = refl
one_leading at [] (y ∷ ys) h k = let e = k.each 0 (omega arith) in let n = h.end in absurd cc
one_leading at (x ∷ xs) [] h k = let e = h.each 0 (omega arith) in let n = k.end in absurd cc
one_leading at (x ∷ xs) (y ∷ ys) h k =
    let e : Some x ≡ Some y = sym (h.each 0 (omega arith)) ∙ k.each 0 (omega arith) in
    let same : x ≡ y = cc in
    let rest = one_leading (λ i. at (suc i)) xs ys (later at x xs h) (later at y ys k) in
    λ i. same i ∷ rest i

longer_each : {X : Type 0} (at : ℕ → Option X) (x : X) (xs : List X) → at 0 ≡ Some x → IsLeading (λ i. at (suc i)) xs → (i : ℕ) → i < length (x ∷ xs) → at i ≡ slice_get (x ∷ xs) i
longer_each at x xs e h zero l = e
longer_each at x xs e h (suc i) l = h.each i (omega arith)

longer : {X : Type 0} (at : ℕ → Option X) (x : X) (xs : List X) → at 0 ≡ Some x → IsLeading (λ i. at (suc i)) xs → IsLeading at (x ∷ xs)
longer at x xs e h = record { each = longer_each at x xs e h; end = h.end }

all_some : {X : Type 0} (at : ℕ → Option X) (m : ℕ) → IsSome (at 0) → ((i : ℕ) → i < m → IsSome (at (suc i))) → (i : ℕ) → i < suc m → IsSome (at i)
all_some at m first others zero l = first
all_some at m first others (suc i) l = others i (omega arith)

none_or_some : {X : Type 0} (o : Option X) → (o ≡ None) ⊎ ((x : X) × (o ≡ Some x))
none_or_some None = inl refl
none_or_some (Some x) = inr (x, refl)

-- Where the test gives nothing soon enough, the bound doesn't show.
pub leading-IsLeading : {X : Type 0} (most : ℕ) (at : ℕ → Option X) → (((i : ℕ) → i < most → IsSome (at i)) → at most ≡ None) → IsLeading at (leading most at)
unfolding leading
leading-IsLeading zero at ends = record { each = λ i l. absurd (omega arith); end = ends (λ i l. absurd (omega arith)) }
leading-IsLeading (suc m) at ends = elim (none_or_some (at 0)) [
  | inl none ↦ subst (λ first. IsLeading at (before first (leading m (λ i. at (suc i))))) (sym none) (record { each = λ i l. absurd (omega arith); end = none })
  | inr some ↦ subst (λ first. IsLeading at (before first (leading m (λ i. at (suc i))))) (sym some.1)
      (longer at some.0 (leading m (λ i. at (suc i))) some.1 (leading-IsLeading m (λ i. at (suc i)) (λ all. ends (all_some at m (subst IsSome (sym some.1) refl) all))))
]

within : {X : Type 0} (xs : List X) (i : ℕ) → i < length xs → IsSome (slice_get xs i)
within [] i l = absurd (omega arith)
within (x ∷ xs) zero l = refl
within (x ∷ xs) (suc i) l = within xs i (omega arith)

pub some_within : {X : Type 0} (at : ℕ → Option X) (xs : List X) → IsLeading at xs → (i : ℕ) → i < length xs → IsSome (at i)
some_within at xs h i l = subst IsSome (sym (h.each i l)) (within xs i l)

not_some : {X : Type 0} (o : Option X) → o ≡ None → IsSome o → ⊥
not_some None e h = absurd cc
not_some (Some x) e h = absurd cc

-- a run is as long as the test gives something
pub greatest_leading : {X : Type 0} (at : ℕ → Option X) (xs : List X) → IsLeading at xs → (m : ℕ) → ((i : ℕ) → i < m → IsSome (at i)) → m ≤ length xs
greatest_leading at xs h m all = elim (cases_lt (length xs) m) [
  | inl lt ↦ absurd (not_some (at (length xs)) h.end (all (length xs) lt))
  | inr le ↦ le
]

pub length_of_leading : {X : Type 0} (at : ℕ → Option X) (xs : List X) → IsLeading at xs → (m : ℕ) → ((i : ℕ) → i < m → IsSome (at i)) → at m ≡ None → m ≡ length xs
length_of_leading at xs h m all none = elim (cases_lt m (length xs)) [
  | inl lt ↦ absurd (not_some (at m) none (some_within at xs h m lt))
  | inr le ↦ let k : m ≤ length xs = greatest_leading at xs h m all in omega arith
]
