-- What the checks of a verdict show.
use Rattle.std.proofs.Common.{◌≡◌, ◌↔◌, ℕ, zero, suc, ◌+◌, ◌<◌, Bool, true, false, ◌&&◌, ◌||◌, List, [], ◌∷◌, ◌++◌, Option, eqb, refl, sym, ◌∙◌, subst, ⊎_elim, arith, length, take, get_or, append_assoc, append-nil}
use Rattle.std.specs.Prelude.{not}
use Rattle.std.proofs.lemmas.List.{take_more}
use Rattle.std.proofs.lemmas.List.Folds.{list_any_more, list_any_at}
use Rattle.std.proofs.lemmas.Bool.Decides.{nat_tests}
use Rattle.trace_ops.specs.declared.state.State.{State}
use Rattle.trace_stuck.specs.declared.condition.Condition.{Condition}
use Rattle.trace_stuck.specs.States.{is_waiting, is_free, is_ended}
use Rattle.trace_stuck.specs.Holds.{may_go}
use Rattle.trace_stuck.specs.Release.{among, IsReleasedAfter, IsReleaseOrder}
use Rattle.trace_stuck.specs.Stuck.{IsClosed, IsStuck}
use Rattle.trace_stuck.specs.Verdicts.{is_step, is_shut}
use Rattle.trace_stuck.proofs.Holds.{both, either, and_true}
use Rattle.trace_stuck.proofs.Orders.{is_equal, false_from, goes_more, left_out, released_more, nothing}
use Rattle.trace_stuck.proofs.Flags.{not_false}

not_true : (a : Bool) → a ≡ false → not a ≡ true
not_true true h = absurd (cc)
not_true false h = refl

module _ (states : List State) (conditions : List (Option Condition)) where
  -- each rank of an order is a step
  pub step_at : (before ranks : List ℕ) (i : ℕ) → i < length ranks → IsReleasedAfter states conditions before ranks →
      is_step states conditions (before ++ take i ranks) (get_or ranks i 0) ≡ true
  step_at before [] i lt o = absurd (omega arith)
  step_at before (r ∷ ranks) zero lt o =
      let e : before ++ [] ≡ before = append-nil before in
      subst (λ (l : List ℕ). is_step states conditions l r ≡ true) (sym e)
      (and_true (is_waiting states r && not (among before r)) (may_go conditions (λ s. is_free states s || among before s) r)
      (and_true (is_waiting states r) (not (among before r)) o.0 (not_true (among before r) o.1)) o.2)
  step_at before (r ∷ ranks) (suc i) lt o =
      subst (λ (l : List ℕ). is_step states conditions l (get_or ranks i 0) ≡ true) (append_assoc before (r ∷ []) (take i ranks))
      (step_at (before ++ r ∷ []) ranks i (omega (arith, lt)) o.3)

  -- one step more
  pub step_more : (ranks : List ℕ) (i : ℕ) → i < length ranks → is_step states conditions (take i ranks) (get_or ranks i 0) ≡ true →
      IsReleaseOrder states conditions (take i ranks) → IsReleaseOrder states conditions (take (i + 1) ranks)
  step_more ranks i lt h o =
      let r = get_or ranks i 0 in
      let p = both (is_waiting states r && not (among (take i ranks) r)) (may_go conditions (λ s. is_free states s || among (take i ranks) s) r) h in
      let q = both (is_waiting states r) (not (among (take i ranks) r)) p.0 in
      subst (λ (l : List ℕ). IsReleaseOrder states conditions l) (sym (take_more ranks i 0 lt))
      (released_more states conditions [] (take i ranks) r o q.0 (not_false (among (take i ranks) r) q.1) p.1)

  abbrev pub Shut : List ℕ → ℕ → Type 0
  Shut ranks r = (is_waiting states r ≡ true) × (may_go conditions (λ s. not (among ranks s) && not (is_ended states s)) r ≡ false)

  pub shut_is : (ranks : List ℕ) (r : ℕ) → is_shut states conditions ranks r ≡ true → Shut ranks r
  shut_is ranks r h =
      let p = both (is_waiting states r) (not (may_go conditions (λ s. not (among ranks s) && not (is_ended states s)) r)) h in
      (p.0, not_false (may_go conditions (λ s. not (among ranks s) && not (is_ended states s)) r) p.1)

  pub is_shut_at : (ranks : List ℕ) (r : ℕ) → Shut ranks r → is_shut states conditions ranks r ≡ true
  is_shut_at ranks r h = and_true (is_waiting states r) (not (may_go conditions (λ s. not (among ranks s) && not (is_ended states s)) r)) h.0 (not_true (may_go conditions (λ s. not (among ranks s) && not (is_ended states s)) r) h.1)

  pub shut_more : (ranks : List ℕ) (i : ℕ) → i < length ranks → ((s : ℕ) → among (take i ranks) s ≡ true → Shut ranks s) → is_shut states conditions ranks (get_or ranks i 0) ≡ true →
      (s : ℕ) → among (take (i + 1) ranks) s ≡ true → Shut ranks s
  shut_more ranks i lt before here s h =
      ⊎_elim (λ (a : among (take i ranks) s ≡ true). before s a)
      (λ (e : eqb (get_or ranks i 0) s ≡ true). subst (Shut ranks) (is_equal (get_or ranks i 0) s e) (shut_is ranks (get_or ranks i 0) here))
      (either (among (take i ranks) s) (eqb (get_or ranks i 0) s) (sym (list_any_more (λ t. eqb t s) ranks i 0 lt) ∙ h))

  pub open_at : (ranks : List ℕ) (i : ℕ) → i < length ranks → is_shut states conditions ranks (get_or ranks i 0) ≡ false → IsClosed states conditions (among ranks) → ⊥
  open_at ranks i lt h c =
      let r = get_or ranks i 0 in
      nothing (sym h ∙ is_shut_at ranks r (c r (list_any_at (λ t. eqb t r) ranks i 0 lt (same r))))
    where
      same : (n : ℕ) → eqb n n ≡ true
      same n = grind (arith, nat_tests)

  pub verdict_right : (stuck release : List ℕ) → IsClosed states conditions (among stuck) → IsReleaseOrder states conditions release →
      ((r : ℕ) → is_waiting states r ≡ (among stuck r || among release r)) → (r : ℕ) → (among stuck r ≡ true → IsStuck states conditions r) × (IsStuck states conditions r → among stuck r ≡ true)
  verdict_right stuck release closed order all r = (
    λ h. (among stuck, closed, h),
    λ (s : IsStuck states conditions r).
        let w = (s.1 r s.2).0 in
        ⊎_elim (λ (a : among stuck r ≡ true). a)
        (λ (b : among release r ≡ true).
        let f = left_out states conditions s.0 s.1 [] release (λ t n. absurd (nothing n)) order r b in absurd (nothing (sym f ∙ s.2)))
        (either (among stuck r) (among release r) (sym (all r) ∙ w)),
  )

-- the stuck ranks are a closed set
pub stuck_closed : (states : List State) (conditions : List (Option Condition)) (inside : ℕ → Bool) → ((r : ℕ) → (inside r ≡ true) ↔ IsStuck states conditions r) → IsClosed states conditions inside
stuck_closed states conditions inside h r i =
    let s : IsStuck states conditions r = (h r).0 i in
    let here = s.1 r s.2 in (
      here.0,
      false_from (may_go conditions (λ t. not (inside t) && not (is_ended states t)) r) (λ g.
          let more = goes_more conditions (λ t. not (inside t) && not (is_ended states t)) (λ t. not (s.0 t) && not (is_ended states t)) r (λ t e.
          let q = both (not (inside t)) (not (is_ended states t)) e in
          let out : s.0 t ≡ false = false_from (s.0 t) (λ j. let k = (h t).1 (s.0, s.1, j) in let n = not_false (inside t) q.0 in cc) in
          and_true (not (s.0 t)) (not (is_ended states t)) (not_true (s.0 t) out) q.1) g in
          let no = here.1 in cc),
    )
