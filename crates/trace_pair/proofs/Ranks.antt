-- Stretches of lists, and the order of a rank's messages in them.
use Rattle.std.proofs.Common.{◌≡◌, ℕ, zero, suc, true, ◌&&◌, List, [], ◌∷◌, ◌++◌, inl, inr, ⊎_elim, refl, ◌∙◌, ap, ◌⊎◌, ◌≤◌, ◌+◌, ◌-◌, arith, take, drop, eqb, ltb}
use Rattle.std.proofs.lemmas.Bool.Decides.{nat_tests}
use Rattle.std.proofs.lemmas.List.{take-append-drop, drop-take}
use Rattle.std.specs.Prelude.{slice_range}
use Rattle.mpi_model.specs.declared.event.OpName.{OpName}
use Rattle.mpi_model.specs.declared.message.Message.{Message}
use Rattle.trace_ops.specs.Order.{Has, AreInOrder, named_before}
use Rattle.trace_pair.proofs.Obeyed.{both, either}

pub has_left : {X : Type 0} (xs ys : List X) (x : X) → Has xs x → Has (xs ++ ys) x
has_left [] ys x i = absurd i
has_left (z ∷ zs) ys x i = ⊎_elim (λ (e : x ≡ z). inl e) (λ j. inr (has_left zs ys x j)) i

pub has_right : {X : Type 0} (xs ys : List X) (x : X) → Has ys x → Has (xs ++ ys) x
has_right [] ys x i = i
has_right (z ∷ zs) ys x i = inr (has_right zs ys x i)

pub has_either : {X : Type 0} (xs ys : List X) (x : X) → Has (xs ++ ys) x → Has xs x ⊎ Has ys x
has_either [] ys x i = inr i
has_either (z ∷ zs) ys x i = ⊎_elim (λ (e : x ≡ z). inl (inl e)) (λ j. ⊎_elim (λ k. inl (inr k)) (λ k. inr k) (has_either zs ys x j)) i

-- a stretch of a list, and what follows it
pub stretch_then : {X : Type 0} (start end : ℕ) (xs : List X) → start ≤ end → drop start (take end xs) ++ drop end xs ≡ drop start xs
stretch_then zero end xs le = take-append-drop end xs
stretch_then (suc start) zero xs le = absurd (omega arith)
stretch_then (suc start) (suc end) [] le = refl
stretch_then (suc start) (suc end) (x ∷ xs) le = stretch_then start end xs (omega arith)

-- of two names that stand so in a list and are of two calls the first is of the earlier one
pub listed_earlier : (a b : OpName) → named_before a b ≡ true → (a.call ≡ b.call → ⊥) → ltb a.call b.call ≡ true
listed_earlier a b h apart =
    ⊎_elim (λ (x : ltb a.call b.call ≡ true). x)
    (λ (x : (eqb a.call b.call && ltb a.part b.part) ≡ true). let e = (both (eqb a.call b.call) (ltb a.part b.part) x).0 in absurd (apart (grind (arith, nat_tests))))
    (either (ltb a.call b.call) (eqb a.call b.call && ltb a.part b.part) h)

pub order_front : (xs ys : List Message) → AreInOrder (xs ++ ys) → AreInOrder xs
order_front [] ys o = tt
order_front (x ∷ xs) ys o = (λ n i. o.0 n (has_left xs ys n i), order_front xs ys o.1)

-- a stretch of a list as a slice is one
pub range_is : {X : Type 0} (start end : ℕ) (xs : List X) → start ≤ end → drop start (take end xs) ≡ slice_range xs start end
range_is start end xs le = let e : end ≡ start + (end - start) = omega arith in ap (λ (n : ℕ). drop start (take n xs)) e ∙ drop-take start (end - start) xs
