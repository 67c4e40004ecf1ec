-- What jobs gave, by their numbers.
use Rattle.std.proofs.Common.{◌≡◌, ◌+◌, ◌<◌, ℕ, zero, suc, List, [], ◌∷◌, ◌++◌, Option, None, Some, IfSome, get_or, length, set, subst, sym, arith}
use Rattle.std.specs.List.{All}
use Rattle.std.proofs.lemmas.List.Elements.{All-push}
use Rattle.side_by_side.specs.Jobs.{AreGiven}

-- a place that is still empty
pub none_more : {X : Type 0} (gives : ℕ → X → Type 0) (number : ℕ) (slots : List (Option X)) → AreGiven gives number slots → AreGiven gives number (slots ++ None ∷ [])
none_more gives number [] given = (tt, tt)
none_more gives number (slot ∷ slots) given = (given.0, none_more gives (number + 1) slots given.1)

-- what stands at a place is replaced, by what its job gave or by nothing
pub set_given : {X : Type 0} (gives : ℕ → X → Type 0) (number place : ℕ) (slots : List (Option X)) (slot : Option X) → AreGiven gives number slots → IfSome slot (gives (number + place))
    → AreGiven gives number (set slots place slot)
set_given gives number place [] slot are is = tt
set_given gives number zero (first ∷ slots) slot are is =
    let here : number + 0 ≡ number = omega arith in (subst (λ (n : ℕ). IfSome slot (gives n)) here is, are.1)
set_given gives number (suc place) (first ∷ slots) slot are is =
    let on : number + suc place ≡ number + 1 + place = omega arith in
    (are.0, set_given gives (number + 1) place slots slot are.1 (subst (λ (n : ℕ). IfSome slot (gives n)) on is))

-- what stands at a place was given by the job of its number
pub given_at : {X : Type 0} (gives : ℕ → X → Type 0) (number place : ℕ) (slots : List (Option X)) (d : Option X) → AreGiven gives number slots → place < length slots
    → IfSome (get_or slots place d) (gives (number + place))
given_at gives number place [] d are lt = absurd (omega (arith, lt))
given_at gives number zero (first ∷ slots) d are lt =
    let here : number + 0 ≡ number = omega arith in subst (λ (n : ℕ). IfSome first (gives n)) (sym here) are.0
given_at gives number (suc place) (first ∷ slots) d are lt =
    let on : number + suc place ≡ number + 1 + place = omega arith in
    subst (λ (n : ℕ). IfSome (get_or slots place d) (gives n)) (sym on) (given_at gives (number + 1) place slots d are.1 (omega (arith, lt)))

-- ---- the same from the first job on

pub set_first : {X : Type 0} (gives : ℕ → X → Type 0) (place : ℕ) (slots : List (Option X)) (slot : Option X) → AreGiven gives 0 slots → IfSome slot (gives place)
    → AreGiven gives 0 (set slots place slot)
set_first gives place slots slot are is =
    let here : place ≡ 0 + place = omega arith in
    set_given gives 0 place slots slot are (subst (λ (n : ℕ). IfSome slot (gives n)) here is)

pub first_at : {X : Type 0} (gives : ℕ → X → Type 0) (place : ℕ) (slots : List (Option X)) (d : Option X) → AreGiven gives 0 slots → place < length slots → IfSome (get_or slots place d) (gives place)
first_at gives place slots d are lt =
    let here : 0 + place ≡ place = omega arith in
    subst (λ (n : ℕ). IfSome (get_or slots place d) (gives n)) here (given_at gives 0 place slots d are lt)

-- ---- what threads have done

-- one more for which something holds
pub all_more : {X : Type 0} (P : X → Type 0) (xs : List X) (x : X) → All P xs → P x → All P (xs ++ x ∷ [])
all_more P xs x all is = All-push P xs x all is
