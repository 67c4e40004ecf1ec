-- A release order leaves each closed set out, and where no rank is left to release the rest is closed.
use Rattle.std.proofs.Common.{append_assoc, append-nil, subst, ◌≡◌, ℕ, Bool, true, false, ◌&&◌, ◌||◌, List, [], ◌∷◌, ◌++◌, Option, Some, None, eqb, refl, sym, ◌∙◌, ap, ⊎_elim, arith}
use Rattle.std.specs.Prelude.{not, slice_get}
use Rattle.std.proofs.lemmas.Bool.Decides.{nat_tests}
use Rattle.std.proofs.lemmas.List.Folds.{list_any-append}
use Rattle.trace_ops.specs.declared.state.State.{State}
use Rattle.trace_ops.specs.declared.state.State.TheVariants.{Free, Waiting, Ended}
use Rattle.trace_stuck.specs.declared.condition.Condition.{Condition}
use Rattle.trace_stuck.specs.Holds.{holds, may_go}
use Rattle.trace_stuck.specs.States.{is_waiting, is_ended, is_free}
use Rattle.trace_stuck.specs.Stuck.{IsClosed, IsStuck}
use Rattle.trace_stuck.specs.Release.{among, IsReleasedAfter, IsReleaseOrder, left}
use Rattle.trace_stuck.proofs.Holds.{both, and_true, either, monotone}

pub same_bool : (a b : Bool) → (a ≡ true → b ≡ true) → (b ≡ true → a ≡ true) → a ≡ b
same_bool true true f g = refl
same_bool true false f g = sym (f refl)
same_bool false true f g = g refl
same_bool false false f g = refl

pub goes_more : (conditions : List (Option Condition)) (able more : ℕ → Bool) (r : ℕ) → ((s : ℕ) → able s ≡ true → more s ≡ true) → may_go conditions able r ≡ true → may_go conditions more r ≡ true
goes_more conditions able more r h g =
    elim (slice_get conditions r) as (λ o. may_go_at able o ≡ true → may_go_at more o ≡ true) [
      | None ↦ λ e. e
      | Some o ↦ elim o as (λ o. may_go_at able (Some o) ≡ true → may_go_at more (Some o) ≡ true) [ None ↦ λ e. e | Some c ↦ λ e. monotone able more c h e ]
    ] g
  where
    may_go_at : (ℕ → Bool) → Option (Option Condition) → Bool
    may_go_at f (Some (Some c)) = holds f c
    may_go_at f o = false

pub goes_same : (conditions : List (Option Condition)) (able more : ℕ → Bool) (r : ℕ) → ((s : ℕ) → able s ≡ more s) → may_go conditions able r ≡ may_go conditions more r
goes_same conditions able more r h =
    same_bool (may_go conditions able r) (may_go conditions more r)
    (goes_more conditions able more r (λ s g. sym (h s) ∙ g))
    (goes_more conditions more able r (λ s g. h s ∙ g))

-- one state at a time
abbrev waits : Option State → Bool
waits (Some Waiting) = true
waits o = false

abbrev frees : Option State → Bool
frees (Some Free) = true
frees o = false

abbrev ends : Option State → Bool
ends (Some Free) = false
ends (Some Waiting) = false
ends o = true

one_state : (o : Option State) → waits o ≡ true → (frees o ≡ false) × (ends o ≡ false)
one_state None h = absurd (cc)
one_state (Some Waiting) h = (refl, refl)
one_state (Some Free) h = absurd (cc)
one_state (Some Ended) h = absurd (cc)

not_ended : (o : Option State) → frees o ≡ true → (waits o ≡ false) × (ends o ≡ false)
not_ended None h = absurd (cc)
not_ended (Some Waiting) h = absurd (cc)
not_ended (Some Free) h = (refl, refl)
not_ended (Some Ended) h = absurd (cc)

pub waiting_is : (states : List State) (r : ℕ) → is_waiting states r ≡ true → (is_free states r ≡ false) × (is_ended states r ≡ false)
waiting_is states r h = one_state (slice_get states r) h

pub free_is : (states : List State) (r : ℕ) → is_free states r ≡ true → (is_waiting states r ≡ false) × (is_ended states r ≡ false)
free_is states r h = not_ended (slice_get states r) h

-- "not a" from "a gives a contradiction"
pub false_from : (a : Bool) → (a ≡ true → ⊥) → a ≡ false
false_from true h = absurd (h refl)
false_from false h = refl

pub among_push : (before : List ℕ) (r s : ℕ) → among (before ++ r ∷ []) s ≡ (among before s || eqb r s)
among_push before r s = list_any-append (λ t. eqb t s) before (r ∷ []) ∙ ap (λ b. among before s || b) (last (eqb r s))
  where
    last : (b : Bool) → (b || false) ≡ b
    last true = refl
    last false = refl

pub is_equal : (r s : ℕ) → eqb r s ≡ true → r ≡ s
is_equal r s h = grind (arith, nat_tests)

able : (o : Option State) (a : Bool) → not (waits o && not a) ≡ true → not (ends o) ≡ true → (frees o || a) ≡ true
able None a h g = absurd (cc)
able (Some Free) a h g = refl
able (Some Ended) a h g = absurd (cc)
able (Some Waiting) true h g = refl
able (Some Waiting) false h g = h

pub nothing : false ≡ true → ⊥
nothing h = cc

module _ (states : List State) (conditions : List (Option Condition)) where
  -- no closed set has a rank of a release order
  pub left_out : (inside : ℕ → Bool) → IsClosed states conditions inside → (before ranks : List ℕ) →
      ((s : ℕ) → among before s ≡ true → (inside s ≡ false) × (is_waiting states s ≡ true)) →
      IsReleasedAfter states conditions before ranks → (r : ℕ) → among ranks r ≡ true → inside r ≡ false
  left_out inside closed before [] h o r a = absurd (cc)
  left_out inside closed before (q ∷ ranks) h o r a =
      let q_out : inside q ≡ false = false_from (inside q) (λ i.
      let c = closed q i in
      let more = goes_more conditions (λ s. is_free states s || among before s) (λ s. not (inside s) && not (is_ended states s)) q (λ s e.
      ⊎_elim
      (λ (f : is_free states s ≡ true).
      let g = free_is states s f in
      let out : inside s ≡ false = false_from (inside s) (λ j. let w = (closed s j).0 in cc) in
      and_true (not (inside s)) (not (is_ended states s)) (rw out refl) (rw g.1 refl))
      (λ (b : among before s ≡ true).
      let g = h s b in let w = (waiting_is states s g.1).1 in
      and_true (not (inside s)) (not (is_ended states s)) (rw g.0 refl) (rw w refl))
      (either (is_free states s) (among before s) e)) o.2 in
      cc) in
      ⊎_elim
      (λ (e : eqb q r ≡ true). let f = is_equal q r e in subst (λ (x : ℕ). inside x ≡ false) f q_out)
      (λ (e : among ranks r ≡ true). left_out inside closed (before ++ q ∷ []) ranks
      (λ s b. ⊎_elim (λ (b : among before s ≡ true). h s b)
      (λ (e : eqb q s ≡ true). let f = is_equal q s e in (subst (λ (x : ℕ). inside x ≡ false) f q_out, subst (λ (x : ℕ). is_waiting states x ≡ true) f o.0))
      (either (among before s) (eqb q s) (sym (among_push before q s) ∙ b)))
      o.3 r e)
      (either (eqb q r) (among ranks r) a)

  -- one rank more
  pub released_more : (before ranks : List ℕ) (r : ℕ) → IsReleasedAfter states conditions before ranks → is_waiting states r ≡ true → among (before ++ ranks) r ≡ false →
      may_go conditions (λ s. is_free states s || among (before ++ ranks) s) r ≡ true → IsReleasedAfter states conditions before (ranks ++ r ∷ [])
  released_more before [] r o w n g = let e = append-nil before in (w, subst (λ (l : List ℕ). among l r ≡ false) e n, subst (λ (l : List ℕ). may_go conditions (λ s. is_free states s || among l s) r ≡ true) e g, tt)
  released_more before (q ∷ ranks) r o w n g =
      let e = append_assoc before (q ∷ []) ranks in (
        o.0,
        o.1,
        o.2,
        released_more (before ++ q ∷ []) ranks r o.3 w
            (subst (λ (l : List ℕ). among l r ≡ false) (sym e) n)
            (subst (λ (l : List ℕ). may_go conditions (λ s. is_free states s || among l s) r ≡ true) (sym e) g),
      )

  -- where no rank is left to release, the rest is closed
  pub rest_closed : (ranks : List ℕ) → ((r : ℕ) → among ranks r ≡ true → is_waiting states r ≡ true) →
      ((r : ℕ) → left states ranks r ≡ true → may_go conditions (λ s. is_free states s || among ranks s) r ≡ false) → IsClosed states conditions (left states ranks)
  rest_closed ranks all_wait none r i =
      let p = both (is_waiting states r) (not (among ranks r)) i in (
        p.0,
        false_from (may_go conditions (λ s. not (left states ranks s) && not (is_ended states s)) r) (λ g.
            let more = goes_more conditions (λ s. not (left states ranks s) && not (is_ended states s)) (λ s. is_free states s || among ranks s) r (λ s e.
            let q = both (not (left states ranks s)) (not (is_ended states s)) e in
            able (slice_get states s) (among ranks s) q.0 q.1) g in
            let no = none r i in cc),
      )

  -- the stuck ranks are those that a release leaves, where nothing is left to release
  pub stuck_is_left : (ranks : List ℕ) → IsReleaseOrder states conditions ranks → ((r : ℕ) → among ranks r ≡ true → is_waiting states r ≡ true) →
      ((r : ℕ) → left states ranks r ≡ true → may_go conditions (λ s. is_free states s || among ranks s) r ≡ false) → (r : ℕ) →
      (left states ranks r ≡ true → IsStuck states conditions r) × (IsStuck states conditions r → left states ranks r ≡ true)
  stuck_is_left ranks o all_wait none r = (
    λ i. (left states ranks, rest_closed ranks all_wait none, i),
    λ (s : IsStuck states conditions r).
        let w = (s.1 r s.2).0 in
        let n : among ranks r ≡ false = false_from (among ranks r) (λ a. let f = left_out s.0 s.1 [] ranks (λ t b. absurd (nothing b)) o r a in let i = s.2 in cc) in
        and_true (is_waiting states r) (not (among ranks r)) w (rw n refl),
  )
