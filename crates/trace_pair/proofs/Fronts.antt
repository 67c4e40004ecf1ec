-- Fronts that two lists have in common, as they are found element by element.
use Rattle.std.proofs.Common.{◌≡◌, ℕ, zero, suc, ◌+◌, ◌<◌, ◌≤◌, List, [], ◌∷◌, ◌++◌, ⊎_elim, sym, ap, arith, subst, length, take, drop, get_or}
use Rattle.std.specs.List.{AllZip}
use Rattle.std.proofs.lemmas.Bool.Decides.{nat_tests}
use Rattle.std.proofs.lemmas.List.{take_more}
use Rattle.trace_ops.specs.declared.entered.Entered.{Entered}
use Rattle.trace_ops.specs.Order.{AreEntered, Has}
use Rattle.trace_pair.specs.Fronts.{call_at}
use Rattle.trace_pair.proofs.Ranks.{has_either}

-- one element more of which the same holds
pub within_more : {X : Type 0} (P : X → Type 0) (xs : List X) (i : ℕ) (d : X) → i < length xs → ((x : X) → Has (take i xs) x → P x) → P (get_or xs i d) → (x : X) → Has (take (i + 1) xs) x → P x
within_more {X} P xs i d lt all here x h =
    ⊎_elim (λ (j : Has (take i xs) x). all x j)
    (λ (j : Has (get_or xs i d ∷ []) x). ⊎_elim (λ (e : x ≡ get_or xs i d). subst P (sym e) here) (λ k. absurd k) j)
    (has_either (take i xs) (get_or xs i d ∷ []) x (subst (λ (l : List X). Has l x) (take_more xs i d lt) h))

zip_push : {X : Type 0} (R : X → X → Type 0) (xs ys : List X) (x y : X) → AllZip R xs ys → R x y → AllZip R (xs ++ x ∷ []) (ys ++ y ∷ [])
zip_push R [] [] x y z r = (r, tt)
zip_push R [] (b ∷ ys) x y z r = absurd z
zip_push R (a ∷ xs) [] x y z r = absurd z
zip_push R (a ∷ xs) (b ∷ ys) x y z r = (z.0, zip_push R xs ys x y z.1 r)

-- one pair of elements more
pub zip_more : {X : Type 0} (R : X → X → Type 0) (xs ys : List X) (i : ℕ) (d e : X) → i < length xs → i < length ys → AllZip R (take i xs) (take i ys) → R (get_or xs i d) (get_or ys i e) → AllZip R (take (i + 1) xs) (take (i + 1) ys)
zip_more {X} R xs ys i d e lt lt' z r =
    subst (λ (l : List X). AllZip R l (take (i + 1) ys)) (sym (take_more xs i d lt))
    (subst (λ (l : List X). AllZip R (take i xs ++ get_or xs i d ∷ []) l) (sym (take_more ys i e lt')) (zip_push R (take i xs) (take i ys) (get_or xs i d) (get_or ys i e) z r))

-- no collective call behind the place stands before the one at the place
pub at_or_behind : (a : List Entered) (i : ℕ) → AreEntered a → (x : Entered) → Has (drop i a) x → call_at a i ≤ x.call
at_or_behind [] zero o x h = absurd h
at_or_behind [] (suc i) o x h = absurd h
at_or_behind (y ∷ a) zero o x h =
    ⊎_elim (λ (e : x ≡ y). let s : x.call ≡ y.call = ap (λ (z : Entered). z.call) e in omega (arith, s)) (λ (j : Has a x). let t = o.0 x j in let lt : y.call < x.call = grind (arith, nat_tests) in omega (arith, lt)) h
at_or_behind (y ∷ a) (suc i) o x h = at_or_behind a i o.1 x h
