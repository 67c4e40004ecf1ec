-- Fronts whose bytes all pass a test, and a byte that doesn't.
use Rattle.std.proofs.Common.{◌≡◌, ℕ, Bool, true, false, ◌&&◌, eqb, List, [], ◌∷◌, ◌++◌, ap, sym, refl, ◌∙◌, inl, inr}
use Rattle.std.specs.List.{list_all}
use Rattle.std.proofs.lemmas.Bool.{cases_eq, false≢true}
use Rattle.dumpi_text.specs.Words.{split_at}
use Rattle.dumpi_text.proofs.Meanings.{other_byte}

pub both_true : (p q : Bool) → (p && q) ≡ true → (p ≡ true) × (q ≡ true)
both_true true q h = (refl, h)
both_true false q h = cc

pub first_passes : (test : ℕ → Bool) (b : ℕ) (bs : List ℕ) → list_all test (b ∷ bs) ≡ true → test b ≡ true
first_passes test b bs all = (both_true (test b) (list_all test bs) all).0

pub rest_passes : (test : ℕ → Bool) (b : ℕ) (bs : List ℕ) → list_all test (b ∷ bs) ≡ true → list_all test bs ≡ true
rest_passes test b bs all = (both_true (test b) (list_all test bs) all).1

-- a byte that passes is not one that doesn't
pub unlike : (test : ℕ → Bool) (a b : ℕ) → test a ≡ true → test b ≡ false → eqb a b ≡ false
unlike test a b passes fails =
    elim (cases_eq a b) [ inl same ↦ absurd (false≢true (sym fails ∙ ap test (sym same) ∙ passes)) | inr other ↦ other_byte a b other ]

-- such a front is passed over by a split at such a byte
pub split_passes : (test : ℕ → Bool) (stop : ℕ) (front rest : List ℕ) → list_all test front ≡ true → test stop ≡ false
    → split_at stop (front ++ rest) ≡ (front ++ (split_at stop rest).0, (split_at stop rest).1)
split_passes test stop [] rest all stops = refl
split_passes test stop (b ∷ bs) rest all stops =
    rw (unlike test b stop (first_passes test b bs all) stops, split_passes test stop bs rest (rest_passes test b bs all) stops) refl

pub unsplit : (test : ℕ → Bool) (stop : ℕ) (text : List ℕ) → list_all test text ≡ true → test stop ≡ false → (split_at stop text).0 ≡ text
unsplit test stop [] all stops = refl
unsplit test stop (b ∷ bs) all stops =
    rw (unlike test b stop (first_passes test b bs all) stops) (ap (λ (r : List ℕ). b ∷ r) (unsplit test stop bs (rest_passes test b bs all) stops))
