-- Lists of ranks: which are in them, and that none is there twice.
use Rattle.std.proofs.Common.{◌≡◌, ◌∙◌, ◌≢◌, ◌+◌, ◌<◌, ◌||◌, ℕ, zero, suc, Bool, true, false, List, [], ◌∷◌, refl, sym, subst, length, take, get_or, eqb, arith}
use Rattle.std.specs.Prelude.{not}
use Rattle.std.specs.List.{AllPairs}
use Rattle.std.proofs.lemmas.Bool.Decides.{nat_tests}
use Rattle.std.proofs.lemmas.List.{get_or-take, get_or_default, length-take-le, take_more}
use Rattle.std.proofs.lemmas.List.Folds.{Any-from_list_any, list_any_at}
use Rattle.std.proofs.lemmas.List.Quantifiers.{all_pairs_push}
use Rattle.trace_ops.specs.declared.state.State.{State}
use Rattle.trace_stuck.specs.Release.{among}
use Rattle.trace_stuck.specs.States.{is_waiting}
use Rattle.trace_check.specs.Right.{AreAllListed, is_listed}

pub nothing : false ≡ true → ⊥
nothing h = cc

pub equal_test : (m n : ℕ) → m ≡ n → eqb m n ≡ true
equal_test m n e = grind (arith, nat_tests, e)

pub test_equal : (m n : ℕ) → eqb m n ≡ true → m ≡ n
test_equal m n h = grind (arith, nat_tests, h)

-- the next rank is none of those before it
pub apart_more : (ranks : List ℕ) (i : ℕ) → i < length ranks → among (take i ranks) (get_or ranks i 0) ≡ false
    → AllPairs (λ r s. r ≢ s) (take i ranks) → AllPairs (λ r s. r ≢ s) (take (i + 1) ranks)
apart_more ranks i lt new apart =
    subst (λ (l : List ℕ). AllPairs (λ r s. r ≢ s) l) (sym (take_more ranks i 0 lt))
    (all_pairs_push (λ r s. r ≢ s) (take i ranks) (get_or ranks i 0) apart (λ k d below e.
    nothing (sym new ∙ list_any_at (λ s. eqb s (get_or ranks i 0)) (take i ranks) k d below (equal_test (get_or (take i ranks) k d) (get_or ranks i 0) e))))

-- the next rank is one of those before it
pub not_apart : (ranks : List ℕ) (i : ℕ) → i < length ranks → among (take i ranks) (get_or ranks i 0) ≡ true → AllPairs (λ r s. r ≢ s) ranks → ⊥
not_apart ranks i lt found apart =
    let some = Any-from_list_any (λ s. eqb s (get_or ranks i 0)) (take i ranks) found in
    let few : length (take i ranks) ≡ i = length-take-le i ranks (omega (arith, lt)) in
    let below : some.0 < i = omega (arith, few, some.2) in
    let here : get_or ranks some.0 some.1 ≡ some.1 = sym (get_or-take i ranks some.0 some.1 below) ∙ some.3 in
    let there : get_or ranks i 0 ≡ get_or ranks i some.1 = get_or_default ranks i 0 some.1 lt in
    apart some.0 i some.1 below lt (here ∙ test_equal some.1 (get_or ranks i 0) some.4 ∙ there)

-- a rank that waits has a place
waits_within : (states : List State) (r : ℕ) → is_waiting states r ≡ true → r < length states
waits_within [] r h = absurd (cc)
waits_within (s ∷ states) zero h = omega arith
waits_within (s ∷ states) (suc r) h = let below = waits_within states r h in omega (arith, below)

of_not : (a b : Bool) → (a ≡ true → b ≡ true) → (not a || b) ≡ true
of_not true b h = h refl
of_not false b h = refl

-- ranks past the last don't wait
pub all_listed : (states : List State) (stuck release : List ℕ) → ((r : ℕ) → r < length states → is_listed states stuck release r ≡ true) → AreAllListed states stuck release
all_listed states stuck release each r =
    of_not (is_waiting states r) (among stuck r || among release r) (λ waits. listed (is_waiting states r) (among stuck r || among release r) (each r (waits_within states r waits)) waits)
  where
    listed : (a b : Bool) → (not a || b) ≡ true → a ≡ true → b ≡ true
    listed true b h e = h
    listed false b h e = absurd (cc e)
