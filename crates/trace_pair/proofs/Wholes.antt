-- Lists of calls cut between calls.
use Rattle.std.proofs.Common.{subst, ◌≡◌, ℕ, zero, suc, ◌+◌, ◌-◌, ◌<◌, ◌≤◌, List, [], ◌∷◌, ◌++◌, inl, inr, ⊎_elim, sym, ◌∙◌, ap, arith, Some, length, take, drop, get_or, eqb}
use Rattle.std.specs.Prelude.{slice_get, slice_range}
use Rattle.std.proofs.lemmas.Bool.Decides.{nat_tests}
use Rattle.std.proofs.lemmas.List.{take-take, take-append-drop, take_more, get_or-drop, length-drop}
use Rattle.mpi_model.specs.declared.message.Receive.{Receive}
use Rattle.trace_ops.specs.Order.{Has, ArePosted, named_before}
use Rattle.trace_pair.specs.Calls.{IsWhole}
use Rattle.trace_pair.proofs.Obeyed.{both}
use Rattle.trace_pair.proofs.Ranks.{has_either, range_is}
use Rattle.trace_pair.proofs.Searched.{stands}

module _ {X : Type 0} (call : X → ℕ) where
  -- Each call is no later than those that follow.
  abbrev pub AreCalled : List X → Type 0
  AreCalled [] = Unit {0}
  AreCalled (x ∷ xs) = ((y : X) → Has xs y → call x ≤ call y) × AreCalled xs

  first_called : (xs : List X) (i : ℕ) (z y : X) → AreCalled xs → slice_get xs i ≡ Some z → Has (drop i xs) y → call z ≤ call y
  first_called [] i z y a e h = absurd (cc)
  first_called (x ∷ xs) zero z y a e h =
      let d : z ≡ x = cc in
      ⊎_elim (λ (f : y ≡ x). let g = ap call (d ∙ sym f) in omega arith) (λ (j : Has xs y). subst (λ (w : X). call w ≤ call y) (sym d) (a.0 y j)) h
  first_called (x ∷ xs) (suc i) z y a e h = first_called xs i z y a.1 e h

  before_called : (xs : List X) (i : ℕ) (z y : X) → AreCalled xs → slice_get xs i ≡ Some z → Has (take i xs) y → call y ≤ call z
  before_called [] i z y a e h = absurd (cc)
  before_called (x ∷ xs) zero z y a e h = absurd h
  before_called (x ∷ xs) (suc i) z y a e h =
      ⊎_elim (λ (f : y ≡ x). subst (λ (w : X). call w ≤ call z) (sym f) (a.0 z (stands xs i z e))) (λ (j : Has (take i xs) y). before_called xs i z y a.1 e j) h

  among_first : (xs : List X) (i n : ℕ) (z : X) → slice_get xs i ≡ Some z → i < n → Has (take n xs) z
  among_first [] i n z e lt = absurd (cc)
  among_first (x ∷ xs) i zero z e lt = absurd (omega arith)
  among_first (x ∷ xs) zero (suc n) z e lt = inl (cc)
  among_first (x ∷ xs) (suc i) (suc n) z e lt = inr (among_first xs i n z e (omega arith))

  -- A call ends where the next one is another.
  pub whole_where : (xs : List X) (start end : ℕ) (p z : X) → AreCalled xs → start < end → slice_get xs start ≡ Some p → slice_get xs end ≡ Some z
      → ((x : X) → Has (slice_range xs start end) x → call x ≡ call p) → (call z ≡ call p → ⊥) → IsWhole call xs end
  whole_where xs start end p z a lt e f one other x y i j same =
      let le : start ≤ end = omega arith in
      let front = before_called xs end z p a f (among_first xs start end p e lt) in
      let back = first_called xs end z y a f j in
      let split : take start xs ++ slice_range xs start end ≡ take end xs =
      ap (λ (l : List X). take start xs ++ l) (sym (range_is start end xs le)) ∙ ap (λ (l : List X). l ++ drop start (take end xs)) (sym (take-take start end xs le)) ∙ take-append-drop start (take end xs) in
      let low : call x ≤ call p =
      ⊎_elim (λ (k : Has (take start xs) x). before_called xs start p x a e k) (λ (k : Has (slice_range xs start end) x). let d = one x k in omega arith)
      (has_either (take start xs) (slice_range xs start end) x (subst (λ (l : List X). Has l x) (sym split) i)) in
      other (omega arith)

  -- one more of the call
  pub range_more : (xs : List X) (start end c : ℕ) (d : X) → start ≤ end → end < length xs → ((x : X) → Has (slice_range xs start end) x → call x ≡ c) → call (get_or xs end d) ≡ c
      → (x : X) → Has (slice_range xs start (end + 1)) x → call x ≡ c
  range_more xs start end c d le lt one e x i =
      let n = end - start in
      let l = length-drop start xs in
      let more : slice_range xs start (end + 1) ≡ slice_range xs start end ++ get_or xs end d ∷ [] =
      ap (λ (k : ℕ). take k (drop start xs)) (omega arith) ∙ take_more (drop start xs) n d (omega arith)
      ∙ ap (λ (y : X). take n (drop start xs) ++ y ∷ []) (get_or-drop start xs n d ∙ ap (λ (k : ℕ). get_or xs k d) (omega arith)) in
      ⊎_elim (λ (j : Has (slice_range xs start end) x). one x j)
      (λ (j : Has (get_or xs end d ∷ []) x). ⊎_elim (λ (f : x ≡ get_or xs end d). ap call f ∙ e) (λ k. absurd k) j)
      (has_either (slice_range xs start end) (get_or xs end d ∷ []) x (subst (λ (l : List X). Has l x) more i))

pub posted_called : (qs : List Receive) → ArePosted qs → AreCalled (λ q. q.name.call) qs
posted_called [] o = tt
posted_called (q ∷ qs) o = (λ r i. let h = (both (eqb q.at r.at) (named_before q.name r.name) (o.0 r i)).1 in grind (arith, nat_tests), posted_called qs o.1)
