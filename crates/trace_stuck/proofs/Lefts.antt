-- The ranks that are left, in order.
use Rattle.std.proofs.Common.{◌≡◌, ℕ, zero, suc, ◌+◌, ◌<◌, ◌≤◌, Bool, true, false, ◌||◌, List, [], ◌∷◌, ◌++◌, ◌⊎◌, eqb, refl, sym, ◌∙◌, ap, subst, ⊎_elim, arith, length, get_or, set, take, append-nil, length-append}
use Rattle.std.specs.Prelude.{if◌then◌else◌}
use Rattle.std.specs.List.Sorted.{IsStrictlyIncreasing}
use Rattle.std.proofs.lemmas.Bool.Decides.{nat_tests}
use Rattle.trace_ops.specs.declared.state.State.{State}
use Rattle.trace_stuck.specs.Release.{among, left}
use Rattle.trace_stuck.specs.States.{is_waiting}
use Rattle.trace_stuck.specs.Queue.{flag}
use Rattle.trace_stuck.specs.Verdicts.{left_below}
use Rattle.trace_stuck.proofs.Holds.{both, either, or_left, or_right}
use Rattle.trace_stuck.proofs.Orders.{is_equal, same_bool}
use Rattle.std.proofs.lemmas.List.Folds.{list_any_more, list_any_at}
use Rattle.std.proofs.Math.Seq.{get_or-append_seam}
use Rattle.std.proofs.lemmas.List.{get_or_append_left}
use Rattle.trace_stuck.proofs.Flags.{waits_in, flag-set, or_assoc, or_false}
use Rattle.trace_stuck.proofs.Named.{among_append}

one_in : (b : Bool) (n r : ℕ) → among (if b then n ∷ [] else []) r ≡ true → (b ≡ true) × (n ≡ r)
one_in true n r h = (refl, is_equal n r (grind (arith, nat_tests)))
one_in false n r h = absurd (cc)

in_one : (b : Bool) (n : ℕ) → b ≡ true → among (if b then n ∷ [] else []) n ≡ true
in_one true n h = or_left (eqb n n) false (grind (arith, nat_tests))
in_one false n h = absurd (cc)

module _ (states : List State) (release : List ℕ) where
  abbrev last : ℕ → List ℕ
  last n = if left states release n then n ∷ [] else []

  pub in_left : (n r : ℕ) → among (left_below states release n) r ≡ true → (left states release r ≡ true) × (r < n)
  in_left zero r h = absurd (cc)
  in_left (suc n) r h =
      ⊎_elim (λ (a : among (left_below states release n) r ≡ true). let p = in_left n r a in (p.0, omega (arith, p.1)))
      (λ (a : among (last n) r ≡ true). let p = one_in (left states release n) n r a in (subst (λ (x : ℕ). left states release x ≡ true) p.1 p.0, omega (arith, p.1)))
      (either (among (left_below states release n) r) (among (last n) r) (sym (among_append (left_below states release n) (last n) r) ∙ h))

  pub left_in : (n r : ℕ) → r < n → left states release r ≡ true → among (left_below states release n) r ≡ true
  left_in zero r lt h = absurd (omega arith)
  left_in (suc n) r lt h =
      among_append (left_below states release n) (last n) r
      ∙ ⊎_elim (λ (e : r ≡ n). or_right (among (left_below states release n) r) (among (last n) r)
      (subst (λ (x : ℕ). among (last n) x ≡ true) (sym e) (in_one (left states release n) n (subst (λ (x : ℕ). left states release x ≡ true) e h))))
      (λ (l : r < n). or_left (among (left_below states release n) r) (among (last n) r) (left_in n r l h))
      (split n r lt)
    where
      split : (n r : ℕ) → r < suc n → (r ≡ n) ⊎ (r < n)
      split n r lt = grind arith

  -- the list of all that are left
  pub all_left : (r : ℕ) → among (left_below states release (length states)) r ≡ left states release r
  all_left r = same_bool (among (left_below states release (length states)) r) (left states release r)
      (λ h. (in_left (length states) r h).0)
      (λ h. left_in (length states) r (waits_in states r (both (is_waiting states r) _ h).0) h)

-- one more flag is raised
module _ (before flags : List Bool) (ranks : List ℕ) (i s : ℕ) (lt : i < length ranks) (so_far : flag flags s ≡ (flag before s || among (take i ranks) s)) where
  more : among (take (i + 1) ranks) s ≡ (among (take i ranks) s || eqb (get_or ranks i 0) s)
  more = list_any_more (λ t. eqb t s) ranks i 0 lt

  pub raised : get_or ranks i 0 < length flags → flag (set flags (get_or ranks i 0) true) s ≡ (flag before s || among (take (i + 1) ranks) s)
  raised in_it = flag-set flags (get_or ranks i 0) s in_it ∙ ap (λ b. b || eqb (get_or ranks i 0) s) so_far
      ∙ or_assoc (flag before s) (among (take i ranks) s) (eqb (get_or ranks i 0) s) ∙ ap (λ b. flag before s || b) (sym more)

  pub not_raised : s < length flags → length flags ≤ get_or ranks i 0 → flag flags s ≡ (flag before s || among (take (i + 1) ranks) s)
  not_raised below past =
      let ne : eqb (get_or ranks i 0) s ≡ false = other (get_or ranks i 0) (length flags) below past in
      so_far ∙ ap (λ b. flag before s || b) (sym (more ∙ ap (λ b. among (take i ranks) s || b) ne ∙ or_false (among (take i ranks) s)))
    where
      other : (r n : ℕ) → s < n → n ≤ r → eqb r s ≡ false
      other r n below past = grind (arith, nat_tests)

at_in : (xs : List ℕ) (k : ℕ) → k < length xs → among xs (get_or xs k 0) ≡ true
at_in xs k lt = list_any_at (λ t. eqb t (get_or xs k 0)) xs k 0 lt (same (get_or xs k 0))
  where
    same : (n : ℕ) → eqb n n ≡ true
    same n = grind (arith, nat_tests)

rising_push : (xs : List ℕ) (y : ℕ) → IsStrictlyIncreasing xs → ((r : ℕ) → among xs r ≡ true → r < y) → IsStrictlyIncreasing (xs ++ y ∷ [])
rising_push xs y up below k lt =
    ⊎_elim
    (λ (l : k + 1 < length xs).
    let a = get_or_append_left xs (y ∷ []) 0 k (omega arith) in let b = get_or_append_left xs (y ∷ []) 0 (k + 1) l in omega (arith, a, b, up k l))
    (λ (e : k + 1 ≡ length xs).
    let a = get_or_append_left xs (y ∷ []) 0 k (omega arith) in
    let b = subst (λ (n : ℕ). get_or (xs ++ y ∷ []) n 0 ≡ y) (sym e) (get_or-append_seam xs y [] 0) in
    omega (arith, a, b, below (get_or xs k 0) (at_in xs k (omega arith))))
    (split k (length xs) (omega (arith, lt, length-append xs (y ∷ []))))
  where
    split : (k n : ℕ) → k + 1 < n + 1 → (k + 1 < n) ⊎ (k + 1 ≡ n)
    split k n lt = grind arith

-- the ranks that are left rise
pub left_rises : (states : List State) (release : List ℕ) (n : ℕ) → IsStrictlyIncreasing (left_below states release n)
left_rises states release zero = λ k lt. absurd (omega (arith, lt))
left_rises states release (suc n) =
    pushed (left states release n) (left_below states release n) (left_rises states release n) (λ r h. (in_left states release n r h).1)
  where
    pushed : (b : Bool) (xs : List ℕ) → IsStrictlyIncreasing xs → ((r : ℕ) → among xs r ≡ true → r < n) → IsStrictlyIncreasing (xs ++ (if b then n ∷ [] else []))
    pushed true xs up below = rising_push xs n up below
    pushed false xs up below = subst IsStrictlyIncreasing (sym (append-nil xs)) up
