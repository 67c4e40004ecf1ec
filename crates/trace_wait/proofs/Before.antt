-- Collective calls that came before a call, and where that call stands, in a list of calls that rise.
use Rattle.std.proofs.Common.{◌≡◌, ℕ, zero, suc, ◌+◌, ◌<◌, ◌≤◌, Bool, true, false, ◌&&◌, cond, List, [], ◌∷◌, Option, Some, None, inl, inr, get_or, refl, sym, ◌∙◌, ap, subst, arith, length, count_by}
use Rattle.std.specs.Prelude.{slice_get, ◌==◌, nat_lt, if◌then◌else◌}
use Rattle.std.specs.List.{find}
use Rattle.std.specs.List.Sorted.{IsNonDecreasingBy, IsPartitionPoint}
use Rattle.std.proofs.lemmas.Bool.Decides.{nat_tests}
use Rattle.std.proofs.lemmas.List.Sums.{sum_by-cons}
use Rattle.trace_ops.specs.declared.entered.Entered.{Entered}
use Rattle.trace_ops.specs.Ops.{Ops}
use Rattle.trace_ops.specs.Order.{Has, AreEntered}
use Rattle.trace_stuck.specs.Shape.{Wait, OnNothing}
use Rattle.trace_wait.specs.Collectives.{collective_of_call, round_number, round_part}
use Rattle.trace_wait.specs.Parts.{Run}
use Rattle.trace_wait.specs.Ranks.{ops_of}
use Rattle.trace_wait.specs.Rounds.{on_comm}
use Rattle.trace_wait.proofs.Searches.{has_at}

under : (a b : ℕ) → nat_lt a b ≡ true → a ≤ b
under a b h = grind (arith, nat_tests)

-- calls that rise don't fall
pub calls_rise : (xs : List Entered) → AreEntered xs → IsNonDecreasingBy (λ e. e.call) xs
calls_rise [] up i j d le lt = absurd (omega arith)
calls_rise (x ∷ xs) up zero zero d le lt = omega arith
calls_rise (x ∷ xs) up zero (suc j) d le lt = under x.call (get_or xs j d).call (up.0 (get_or xs j d) (has_at xs j d (omega (arith, lt))))
calls_rise (x ∷ xs) up (suc i) zero d le lt = absurd (omega (arith, le))
calls_rise (x ∷ xs) up (suc i) (suc j) d le lt = calls_rise xs up.1 i j d (omega (arith, le)) (omega (arith, lt))

-- one element more in front
count_step : {X : Type 0} (p : X → Bool) (x : X) (xs : List X) (b : Bool) → p x ≡ b → count_by p (x ∷ xs) ≡ cond b 1 0 + count_by p xs
count_step p x xs b h = sum_by-cons (λ y. cond (p y) 1 0) x xs ∙ ap (λ (c : Bool). cond c 1 0 + count_by p xs) h

-- the place up to which a test holds tells how many elements pass it
pub point_counts : {X : Type 0} (p : X → Bool) (xs : List X) (i : ℕ) → i ≤ length xs → IsPartitionPoint (λ y. p y ≡ true) (λ y. p y ≡ false) xs i → i ≡ count_by p xs
point_counts p [] i le point = omega (arith, le)
point_counts p (x ∷ xs) zero le point =
    let rest = point_counts p xs zero (omega arith) (λ k d from lt. absurd (omega (arith, lt)), λ k d from lt. point.1 (suc k) d (omega arith) (omega (arith, lt))) in
    let step = count_step p x xs false (point.1 0 x (omega arith) (omega arith)) in
    omega (arith, rest, step)
point_counts p (x ∷ xs) (suc i) le point =
    let rest = point_counts p xs i (omega (arith, le)) (λ k d from lt. point.0 (suc k) d (omega arith) (omega (arith, lt)), λ k d from lt. point.1 (suc k) d (omega (arith, from)) (omega (arith, lt))) in
    let step = count_step p x xs true (point.0 0 x (omega arith) (omega arith)) in
    omega (arith, rest, step)

-- those on a communicator that came before a call
pub count_on : (c n : ℕ) (xs : List Entered) → count_by (λ e. nat_lt e.call n) (on_comm c xs) ≡ count_by (λ d. (d.comm == c) && nat_lt d.call n) xs
count_on c n [] = refl
count_on c n (x ∷ xs) = by (x.comm == c) refl (count_on c n xs)
  where
    early : Entered → Bool
    early e = nat_lt e.call n

    here : Entered → Bool
    here d = (d.comm == c) && nat_lt d.call n

    by : (b : Bool) → (x.comm == c) ≡ b → count_by early (on_comm c xs) ≡ count_by here xs → count_by early (if b then x ∷ on_comm c xs else on_comm c xs) ≡ count_by here (x ∷ xs)
    by true e rest =
        count_step early x (on_comm c xs) (early x) refl ∙ ap (λ k. cond (early x) 1 0 + k) rest
        ∙ sym (count_step here x xs (early x) (ap (λ (b : Bool). b && early x) e))
    by false e rest =
        let step = count_step here x xs false (ap (λ (b : Bool). b && early x) e) in
        omega (arith, rest, step)

module _ (n : ℕ) where
  abbrev early : Entered → Bool
  early e = nat_lt e.call n

  abbrev is : Entered → Bool
  is e = e.call == n

  not_early : (m k : ℕ) → n ≤ m → nat_lt m k ≡ true → nat_lt k n ≡ false
  not_early m k le h = grind (arith, nat_tests)

  not_it : (m k : ℕ) → n ≤ m → nat_lt m k ≡ true → (k == n) ≡ false
  not_it m k le h = grind (arith, nat_tests)

  early_other : (k : ℕ) → nat_lt k n ≡ true → (k == n) ≡ false
  early_other k h = grind (arith, nat_tests)

  from : (k : ℕ) → nat_lt k n ≡ false → n ≤ k
  from k h = grind (arith, nat_tests)

  -- behind a call that is not before it there is none that is, nor the call itself
  none_early : (m : ℕ) (xs : List Entered) → n ≤ m → ((y : Entered) → Has xs y → nat_lt m y.call ≡ true) → count_by early xs ≡ 0
  none_early m [] le h = refl
  none_early m (x ∷ xs) le h =
      let rest = none_early m xs le (λ y i. h y (inr i)) in
      let step = count_step early x xs false (not_early m x.call le (h x (inl refl))) in
      omega (arith, rest, step)

  none_is : (m : ℕ) (xs : List Entered) → n ≤ m → ((y : Entered) → Has xs y → nat_lt m y.call ≡ true) → find is xs ≡ None
  none_is m [] le h = refl
  none_is m (x ∷ xs) le h =
      subst (λ (b : Bool). cond b (Some x) (find is xs) ≡ None) (sym (not_it m x.call le (h x (inl refl)))) (none_is m xs le (λ y i. h y (inr i)))

  -- an entry, where it is of the call
  abbrev pub picked : Option Entered → Option Entered
  picked None = None
  picked (Some e) = cond (e.call == n) (Some e) None

  -- the call stands behind those before it, if anywhere
  pub found_behind : (xs : List Entered) → AreEntered xs → find (λ e. e.call == n) xs ≡ picked (slice_get xs (count_by (λ e. nat_lt e.call n) xs))
  found_behind [] up = refl
  found_behind (x ∷ xs) up = by (nat_lt x.call n) refl (found_behind xs up.1)
    where
      by : (b : Bool) → nat_lt x.call n ≡ b → find is xs ≡ picked (slice_get xs (count_by early xs)) → find is (x ∷ xs) ≡ picked (slice_get (x ∷ xs) (count_by early (x ∷ xs)))
      by true e rest =
          let step = count_step early x xs true e in
          let more : count_by early (x ∷ xs) ≡ suc (count_by early xs) = omega (arith, step) in
          ap (λ (b : Bool). cond b (Some x) (find is xs)) (early_other x.call e) ∙ rest ∙ ap (λ k. picked (slice_get (x ∷ xs) k)) (sym more)
      by false e rest =
          let le = from x.call e in
          let step = count_step early x xs false e in
          let none = none_early x.call xs le up.0 in
          let first : count_by early (x ∷ xs) ≡ 0 = omega (arith, step, none) in
          ap (λ (o : Option Entered). cond (x.call == n) (Some x) o) (none_is x.call xs le up.0) ∙ ap (λ k. picked (slice_get (x ∷ xs) k)) (sym first)

-- the operations of a rank, by its place
pub ops_at : (ops : List Ops) (i : ℕ) (d : Ops) → i < length ops → ops_of ops i ≡ get_or ops i d
ops_at [] i d lt = absurd (omega arith)
ops_at (o ∷ ops) zero d lt = refl
ops_at (o ∷ ops) (suc i) d lt = ops_at ops i d (omega (arith, lt))

-- what is found where the call would stand
module _ (n : ℕ) (xs : List Entered) (up : AreEntered xs) where
  it : (k : ℕ) → k ≡ n → (k == n) ≡ true
  it k e = grind (arith, nat_tests)

  other : (k : ℕ) → (k ≡ n → ⊥) → (k == n) ≡ false
  other k e = grind (arith, nat_tests)

  pub found_none : slice_get xs (count_by (λ e. nat_lt e.call n) xs) ≡ None → None ≡ find (λ e. e.call == n) xs
  found_none h = sym (found_behind n xs up ∙ ap (picked n) h)

  pub found_it : (e : Entered) → slice_get xs (count_by (λ e. nat_lt e.call n) xs) ≡ Some e → e.call ≡ n → Some e ≡ find (λ e. e.call == n) xs
  found_it e h is = sym (found_behind n xs up ∙ ap (picked n) h ∙ ap (λ (b : Bool). cond b (Some e) None) (it e.call is))

  pub found_other : (e : Entered) → slice_get xs (count_by (λ e. nat_lt e.call n) xs) ≡ Some e → (e.call ≡ n → ⊥) → None ≡ find (λ e. e.call == n) xs
  found_other e h not = sym (found_behind n xs up ∙ ap (picked n) h ∙ ap (λ (b : Bool). cond b (Some e) None) (other e.call not))

-- what is entered, by the number of its round
abbrev by_entry : Run → ℕ → Ops → Option Entered → Wait
by_entry s r o (Some e) = round_part s r e (round_number o e)
by_entry s r o None = OnNothing

-- what an entry that was found waits for
pub collective_found : (s : Run) (r : ℕ) (o : Ops) (n : ℕ) (e : Entered) (k : ℕ) → Some e ≡ find (λ d. d.call == n) o.rounds → k ≡ round_number o e → round_part s r e k ≡ collective_of_call s r o n
collective_found s r o n e k found number = ap (round_part s r e) number ∙ ap (by_entry s r o) found
