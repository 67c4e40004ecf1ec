-- A place that is searched from the front of a list.
use Rattle.std.proofs.Common.{◌≡◌, ◌<◌, ℕ, zero, suc, Bool, true, false, cond, List, [], ◌∷◌, Option, Some, None, option_map, length, take, get_or, refl, ap, arith}
use Rattle.call_arguments.specs.Places.{first_where}

none_behind : (b : Bool) (p q : Option ℕ) → cond b (Some zero) (option_map suc p) ≡ None → (p ≡ None → q ≡ None) → cond b (Some zero) (option_map suc q) ≡ None
none_behind true p q e h = cc
none_behind false None q e h = ap (option_map suc) (h refl)
none_behind false (Some j) q e h = cc

behind : (b : Bool) (p q : Option ℕ) (i : ℕ) → cond b (Some zero) (option_map suc p) ≡ None → (p ≡ None → q ≡ Some i) → cond b (Some zero) (option_map suc q) ≡ Some (suc i)
behind true p q i e h = cc
behind false None q i e h = ap (option_map suc) (h refl)
behind false (Some j) q i e h = cc

-- none so far, and this one
pub found : {X : Type 0} (p : X → Bool) (xs : List X) (i : ℕ) (d : X) → i < length xs → first_where p (take i xs) ≡ None → p (get_or xs i d) ≡ true → first_where p xs ≡ Some i
found p [] i d lt before is = absurd (omega arith)
found p (y ∷ xs) zero d lt before is = ap (λ (t : Bool). cond t (Some zero) (option_map suc (first_where p xs))) is
found p (y ∷ xs) (suc i) d lt before is = behind (p y) (first_where p (take i xs)) (first_where p xs) i before (λ none. found p xs i d (omega arith) none is)

-- none so far, and not this one
pub none_next : {X : Type 0} (p : X → Bool) (xs : List X) (i : ℕ) (d : X) → i < length xs → first_where p (take i xs) ≡ None → p (get_or xs i d) ≡ false → first_where p (take (suc i) xs) ≡ None
none_next p [] i d lt before not = absurd (omega arith)
none_next p (y ∷ xs) zero d lt before not = ap (λ (t : Bool). cond t (Some zero) None) not
none_next p (y ∷ xs) (suc i) d lt before not = none_behind (p y) (first_where p (take i xs)) (first_where p (take (suc i) xs)) before (λ none. none_next p xs i d (omega arith) none not)
