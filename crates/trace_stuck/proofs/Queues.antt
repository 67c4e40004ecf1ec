-- The steps of a queue of released ranks.
use Rattle.std.proofs.Common.{Option, Some, None, ◌≡◌, ℕ, zero, suc, ◌+◌, ◌<◌, ◌≤◌, ◌⊎◌, Bool, true, false, ◌&&◌, ◌||◌, List, [], ◌∷◌, ◌++◌, eqb, refl, sym, ◌∙◌, ap, subst, inl, inr, ⊎_elim, arith, length, set, drop, get_or, length-append, Vec, Global}
use Rattle.std.specs.Prelude.{not, slice_get, nat_le}
use Rattle.std.proofs.Math.ListN.{length-set, drop_of_length-le}
use Rattle.std.proofs.lemmas.List.{drop-append-le, drop_more}
use Rattle.std.proofs.lemmas.Bool.Decides.{nat_tests}
use Rattle.trace_ops.specs.declared.state.State.{State}
use Rattle.trace_stuck.specs.declared.condition.Condition.{Condition}
use Rattle.trace_stuck.specs.Queue.{flag, is_next}
use Rattle.trace_stuck.specs.Holds.{holds, may_go}
use Rattle.trace_stuck.specs.States.{is_waiting, is_free}
use Rattle.trace_stuck.specs.Release.{among, IsReleasedAfter, left}
use Rattle.trace_stuck.specs.Named.{named, names, at_rank, IsAskedBy}
use Rattle.trace_stuck.specs.Queue.{down, Tried, TriedAs, Ready, nobody, everybody}
use Rattle.trace_stuck.proofs.Holds.{either, or_left, or_right}
use Rattle.trace_stuck.proofs.Orders.{is_equal, nothing}
use Rattle.trace_stuck.proofs.Flags.{flips_fewer, flag-set, last_false, waits_in, or_false, able_more, order_more, none_next}
use Rattle.trace_stuck.proofs.Named.{names_new, or_false_parts, among_append, among_self}

pub two_cases : (b : Bool) → (b ≡ true) ⊎ (b ≡ false)
two_cases true = inl refl
two_cases false = inr refl

pub goes_new : (conditions : List (Option Condition)) (able more : ℕ → Bool) (q s : ℕ) → ((t : ℕ) → more t ≡ true → (able t ≡ true) ⊎ (q ≡ t)) →
    may_go conditions more s ≡ true → may_go conditions able s ≡ false → among (names conditions s) q ≡ true
goes_new conditions able more q s new =
    elim (slice_get conditions s) as (λ o. goes more o ≡ true → goes able o ≡ false → among (of o) q ≡ true) [
      | None ↦ λ h k. absurd (cc)
      | Some o ↦ elim o as (λ o. goes more (Some o) ≡ true → goes able (Some o) ≡ false → among (of (Some o)) q ≡ true) [ None ↦ λ h k. absurd (cc) | Some c ↦ λ h k. names_new able more q new c h k ]
    ]
  where
    goes : (ℕ → Bool) → Option (Option Condition) → Bool
    goes f (Some (Some c)) = holds f c
    goes f o = false

    of : Option (Option Condition) → List ℕ
    of (Some (Some c)) = named c
    of o = []

-- the parts of "is next"
next_parts : (w f g : Bool) → (w && not f && g) ≡ true → (w ≡ true) × (f ≡ false) × (g ≡ true)
next_parts true true g h = absurd (cc)
next_parts true false g h = (refl, refl, h)
next_parts false f g h = absurd (cc)

pub released_waits : (states : List State) (conditions : List (Option Condition)) (before ranks : List ℕ) → IsReleasedAfter states conditions before ranks →
    (s : ℕ) → among ranks s ≡ true → is_waiting states s ≡ true
released_waits states conditions before [] o s h = absurd (cc)
released_waits states conditions before (q ∷ ranks) o s h =
    ⊎_elim (λ (e : eqb q s ≡ true). subst (λ (x : ℕ). is_waiting states x ≡ true) (is_equal q s e) o.0)
    (λ (e : among ranks s ≡ true). released_waits states conditions (before ++ q ∷ []) ranks o.3 s e)
    (either (eqb q s) (among ranks s) h)

all_down : (xs : List Bool) → down xs ≤ length xs
all_down [] = omega arith
all_down (true ∷ xs) = omega (arith, all_down xs)
all_down (false ∷ xs) = omega (arith, all_down xs)

module _ (states : List State) (conditions : List (Option Condition)) where
  pub ready_start : (able : List Bool) → length able ≡ length states → ((r : ℕ) → flag able r ≡ is_free states r) → Ready states conditions 0 everybody able []
  ready_start able len ties = record {
    len = len;
    few = omega (arith, all_down able);
    order = tt;
    ties = λ r. ties r ∙ sym (or_false (is_free states r));
    next = λ r h. inl refl;
  }

  pub ready_weaken : (from : ℕ) (todo more : ℕ → Bool) (able : List Bool) (release : List ℕ) → ((s : ℕ) → is_waiting states s ≡ true → todo s ≡ true → more s ≡ true) →
      Ready states conditions from todo able release → Ready states conditions from more able release
  ready_weaken from todo more able release h o = record {
    len = o.len;
    few = o.few;
    order = o.order;
    ties = o.ties;
    next = λ r n. ⊎_elim (λ (t : todo r ≡ true). inl (h r (next_parts (is_waiting states r) (flag able r) (may_go conditions (flag able) r) n).0 t)) (λ w. inr w) (o.next r n);
  }

  pub tried_grows : (b : Bool) (r : ℕ) (able : List Bool) (release : List ℕ) (able2 : List Bool) (release2 : List ℕ) → TriedAs b r able release able2 release2 → length release ≤ length release2
  tried_grows true r able release able2 release2 t = rw (t.1, length-append) (omega arith)
  tried_grows false r able release able2 release2 t = rw t.1 (omega arith)

  module _ (from : ℕ) (todo more : ℕ → Bool) (r : ℕ) (able : List Bool) (release : List ℕ) (in_it : from ≤ length release) (o : Ready states conditions from todo able release)
      (left_over : (s : ℕ) → todo s ≡ true → (s ≡ r) ⊎ (more s ≡ true)) where
    more_ties : r < length able → (s : ℕ) → flag (set able r true) s ≡ true → (flag able s ≡ true) ⊎ (r ≡ s)
    more_ties lt s h = ⊎_elim (λ (a : flag able s ≡ true). inl a) (λ (e : eqb r s ≡ true). inr (is_equal r s e)) (either (flag able s) (eqb r s) (sym (flag-set able r s lt) ∙ h))

    last_in : among (drop from (release ++ r ∷ [])) r ≡ true
    last_in = ap (λ l. among l r) (drop-append-le from release (r ∷ []) in_it) ∙ among_append (drop from release) (r ∷ []) r ∙ or_right (among (drop from release) r) (among (r ∷ []) r) (among_self r)

    stays_in : (t : ℕ) → among (drop from release) t ≡ true → among (drop from (release ++ r ∷ [])) t ≡ true
    stays_in t h = ap (λ l. among l t) (drop-append-le from release (r ∷ []) in_it) ∙ among_append (drop from release) (r ∷ []) t ∙ or_left (among (drop from release) t) (among (r ∷ []) t) h

    Work : List ℕ → ℕ → Type 0
    Work l s = (more s ≡ true) ⊎ ((t : ℕ) × (among (drop from l) t ≡ true) × (among (names conditions s) t ≡ true))

    still_next : is_next states conditions able r ≡ true → (s : ℕ) → is_next states conditions (set able r true) s ≡ true → (s ≡ r → ⊥) → is_next states conditions able s ≡ true → Work (release ++ r ∷ []) s
    unfolding Work
    still_next n s h ne k =
        ⊎_elim (λ (t : todo s ≡ true). ⊎_elim (λ (e : s ≡ r). absurd (ne e)) (λ (m : more s ≡ true). inl m) (left_over s t))
        (λ (w : (t : ℕ) × (among (drop from release) t ≡ true) × (among (names conditions s) t ≡ true)). inr (w.0, stays_in w.0 w.1, w.2))
        (o.next s k)

    tried_next : is_next states conditions able r ≡ true → r < length able → (s : ℕ) → is_next states conditions (set able r true) s ≡ true → Work (release ++ r ∷ []) s
    unfolding Work
    tried_next n lt s h =
        let p = next_parts (is_waiting states s) (flag (set able r true) s) (may_go conditions (flag (set able r true)) s) h in
        let q = or_false_parts (flag able s) (eqb r s) (sym (flag-set able r s lt) ∙ p.1) in
        let ne : s ≡ r → ⊥ = λ (e : s ≡ r). let same : eqb r s ≡ true = grind (arith, nat_tests) in nothing (sym q.1 ∙ same) in
        ⊎_elim (λ (k : is_next states conditions able s ≡ true). still_next n s h ne k)
        (λ (k : is_next states conditions able s ≡ false).
        inr (
          r,
          last_in,
          goes_new conditions (flag able) (flag (set able r true)) r s (more_ties lt) p.2
              (last_false (is_waiting states s) (flag able s) (may_go conditions (flag able) s) p.0 q.0 k),
        ))
        (two_cases (is_next states conditions able s))

    tried_true : is_next states conditions able r ≡ true → Ready states conditions from more (set able r true) (release ++ r ∷ [])
    unfolding Work
    tried_true n =
        let p = next_parts (is_waiting states r) (flag able r) (may_go conditions (flag able) r) n in
        let lt : r < length able = omega (arith, waits_in states r p.0, o.len) in
        record {
          len = length-set able r true ∙ o.len;
          few = let f = flips_fewer able r lt p.1 in rw length-append (omega (arith, f, o.few));
          order = order_more states conditions able release o.ties o.order r n;
          ties = able_more states conditions able release o.ties o.order r lt;
          next = tried_next n lt;
        }

    tried_false : is_next states conditions able r ≡ false → Ready states conditions from more able release
    tried_false n = record {
      len = o.len;
      few = o.few;
      order = o.order;
      ties = o.ties;
      next = λ s k. ⊎_elim
          (λ (t : todo s ≡ true). ⊎_elim (λ (e : s ≡ r). absurd (nothing (sym n ∙ subst (λ (x : ℕ). is_next states conditions able x ≡ true) e k))) (λ (m : more s ≡ true). inl m) (left_over s t))
          (λ (w : (t : ℕ) × (among (drop from release) t ≡ true) × (among (names conditions s) t ≡ true)). inr w)
          (o.next s k);
    }

    pub ready_tried : (able2 : List Bool) (release2 : List ℕ) → Tried states conditions r able release able2 release2 → Ready states conditions from more able2 release2
    ready_tried able2 release2 =
        ⊎_elim
        (λ (n : is_next states conditions able r ≡ true). λ (t : Tried states conditions r able release able2 release2).
        let u = subst (λ (b : Bool). TriedAs b r able release able2 release2) n t in
        subst (λ (a : List Bool). Ready states conditions from more a release2) (sym u.0) (subst (λ (l : List ℕ). Ready states conditions from more (set able r true) l) (sym u.1) (tried_true n)))
        (λ (n : is_next states conditions able r ≡ false). λ (t : Tried states conditions r able release able2 release2).
        let u = subst (λ (b : Bool). TriedAs b r able release able2 release2) n t in
        subst (λ (a : List Bool). Ready states conditions from more a release2) (sym u.0) (subst (λ (l : List ℕ). Ready states conditions from more able l) (sym u.1) (tried_false n)))
        (two_cases (is_next states conditions able r))

  -- the turn of the next released rank
  pub ready_turn : (at : ℕ) (able : List Bool) (release : List ℕ) (askers : List (Vec ℕ Global)) → at < length release → IsAskedBy conditions (length states) (length states) askers →
      Ready states conditions at nobody able release → Ready states conditions (at + 1) (among (at_rank askers (get_or release at 0))) able release
  ready_turn at able release askers lt asked o = record {
    len = o.len;
    few = o.few;
    order = o.order;
    ties = o.ties;
    next = λ r n. ⊎_elim (λ (t : nobody r ≡ true). absurd (nothing t))
        (λ (w : (t : ℕ) × (among (drop at release) t ≡ true) × (among (names conditions r) t ≡ true)).
        let a : among (get_or release at 0 ∷ drop (at + 1) release) w.0 ≡ true = subst (λ (l : List ℕ). among l w.0 ≡ true) (drop_more release at 0 lt) w.1 in
        ⊎_elim
        (λ (e : eqb (get_or release at 0) w.0 ≡ true).
        let f = is_equal (get_or release at 0) w.0 e in
        let r_in = waits_in states r (next_parts (is_waiting states r) (flag able r) (may_go conditions (flag able) r) n).0 in
        let t_in = waits_in states w.0 (released_waits states conditions [] release o.order w.0 (dropped at release w.0 w.1)) in
        inl (subst (λ (x : ℕ). among (at_rank askers x) r ≡ true) (sym f) (asked r w.0 r_in t_in w.2)))
        (λ (e : among (drop (at + 1) release) w.0 ≡ true). inr (w.0, e, w.2))
        (either (eqb (get_or release at 0) w.0) (among (drop (at + 1) release) w.0) a))
        (o.next r n);
  }
    where
      dropped : (n : ℕ) (xs : List ℕ) (t : ℕ) → among (drop n xs) t ≡ true → among xs t ≡ true
      dropped zero xs t h = h
      dropped (suc n) [] t h = h
      dropped (suc n) (x ∷ xs) t h = or_right (eqb x t) (among xs t) (dropped n xs t h)

  -- nothing is left to do
  pub ready_end : (at : ℕ) (able : List Bool) (release : List ℕ) → length release ≤ at → Ready states conditions at nobody able release →
      (r : ℕ) → left states release r ≡ true → may_go conditions (λ s. is_free states s || among release s) r ≡ false
  ready_end at able release le o = none_next states conditions able release o.ties o.order 0 (λ r lt.
      ⊎_elim
      (λ (n : is_next states conditions able r ≡ true).
      ⊎_elim (λ (t : nobody r ≡ true). absurd (nothing t))
      (λ (w : (t : ℕ) × (among (drop at release) t ≡ true) × (among (names conditions r) t ≡ true)).
      let e : drop at release ≡ [] = drop_of_length-le release le in
      absurd (nothing (subst (λ (l : List ℕ). among l w.0 ≡ true) e w.1)))
      (o.next r n))
      (λ (n : is_next states conditions able r ≡ false). n)
      (two_cases (is_next states conditions able r)))

-- counting up by one
pub next_rank : (r s : ℕ) → nat_le r s ≡ true → (s ≡ r) ⊎ (nat_le (r + 1) s ≡ true)
next_rank r s h = ⊎_elim (λ (e : eqb r s ≡ true). inl (sym (is_equal r s e))) (λ (e : eqb r s ≡ false). inr (grind (arith, nat_tests))) (two_cases (eqb r s))
