-- Values in slots, as one comes or goes.
use Rattle.std.proofs.Common.{subst, ◌≡◌, ℕ, zero, suc, ◌+◌, ◌<◌, ◌≤◌, true, false, ◌&&◌, List, [], ◌∷◌, ◌++◌, inl, inr, ⊎_elim, sym, refl, ◌∙◌, ap, arith, ◌⊎◌, cond, eqb, Option, Some, None, length, get_or, take, drop}
use Rattle.std.specs.declared.cmp.Ordering.TheVariants.{Less, Equal, Greater}
use Rattle.std.specs.declared.cmp.Ordering.{Ordering}
use Rattle.std.specs.Cmp.{IsTotalOrder}
use Rattle.std.specs.Ordering.{nat_cmp, is_lt, ordering_then}
use Rattle.std.specs.Prelude.{slice_set, Vec, Result, Ok, Err, IfOk, IfErr, OnErr}
use Rattle.std.specs.List.{filter_map}
use Rattle.std.specs.List.Sorted.{IsSortedBy, IsSearchInRange, IsBinarySearchResult}
use Rattle.std.specs.Option.{option_map}
use Rattle.std.specs.declared.alloc.Global.{Global}
use Rattle.std.proofs.lemmas.Bool.{cases_lt}
use Rattle.std.proofs.lemmas.Cmp.{nat_cmp_total, on_total, then_total}
use Rattle.std.proofs.lemmas.List.Sorted.{searchable_from_sorted}
use Rattle.std.proofs.lemmas.Bool.Decides.{nat_tests}
use Rattle.mpi_model.specs.declared.event.OpName.{OpName}
use Rattle.trace_ops.specs.Order.{Has}
use Rattle.trace_pair.specs.Slots.{at_cmp, at_eq, at_lt, at_of, Rises, IsSlotAt, IsGapAt, AreSlots, Slots, slots_at, value_in, value_of, named, entry_in, entries_from, entries_of}
use Rattle.trace_pair.specs.declared.slots.At.{At}
use Rattle.trace_pair.specs.declared.slots.Slot.{Slot}
use Rattle.trace_pair.proofs.Certain.{same_name}
use Rattle.trace_pair.proofs.Listed.{from_some, gives_some}
use Rattle.trace_pair.proofs.Members.{contains_has}
use Rattle.trace_pair.proofs.Obeyed.{both}
use Rattle.trace_pair.proofs.Ranks.{has_left, has_right, has_either}
use Rattle.trace_pair.proofs.Tabled.{has_at}

same : (a b : ℕ) → a ≡ b → eqb a b ≡ true
same a b e = grind (arith, nat_tests)

other : (a b : ℕ) → (a ≡ b → ⊥) → eqb a b ≡ false
other a b n =
    elim (eqb a b) as (λ t. eqb a b ≡ t → t ≡ false) [
      | true ↦ λ e. let f : a ≡ b = grind (arith, nat_tests) in absurd (n f)
      | false ↦ λ e. refl
    ] refl

says : (a b : ℕ) → eqb a b ≡ true → a ≡ b
says a b h = grind (arith, nat_tests)

next : (a b : ℕ) → eqb (suc a) (suc b) ≡ eqb a b
next a b =
    elim (eqb a b) as (λ t. eqb a b ≡ t → eqb (suc a) (suc b) ≡ t) [
      | true ↦ λ h. let e = says a b h in same (suc a) (suc b) (ap suc e)
      | false ↦ λ h. other (suc a) (suc b) (λ e. let g = same a b (omega (arith, e)) in absurd (cc))
    ] refl

same_at : (a b : At) → a ≡ b → at_eq a b ≡ true
same_at a b e = let f = ap (λ (x : At). x.call) e in let g = ap (λ (x : At). x.part) e in grind (arith, nat_tests)

at_is : (a b : At) → a.call ≡ b.call → a.part ≡ b.part → a ≡ b
at_is a b e f = let at : ℕ → ℕ → At = λ c p. record { call = c; part = p } in ap (λ c. at c a.part) e ∙ ap (λ p. at b.call p) f

says_at : (a b : At) → at_eq a b ≡ true → a ≡ b
says_at a b h = let p = both (eqb a.call b.call) (eqb a.part b.part) h in at_is a b (says a.call b.call p.0) (says a.part b.part p.1)

other_at : (a b : At) → (a ≡ b → ⊥) → at_eq a b ≡ false
other_at a b n =
    elim (at_eq a b) as (λ t. at_eq a b ≡ t → t ≡ false) [
      | true ↦ λ e. absurd (n (says_at a b e))
      | false ↦ λ e. refl
    ] refl

apart_at : (a b : At) → at_lt a b ≡ true → a ≡ b → ⊥
apart_at a b h e = let f = ap (λ (x : At). x.call) e in let g = ap (λ (x : At). x.part) e in grind (arith, nat_tests)

-- the later of two slots that rise has another call
above : {V : Type 0} (s t : Slot V) (c : At) → at_lt s.at t.at ≡ true → t.at ≡ c → at_eq s.at c ≡ false
above s t c lt e = other_at s.at c (λ f. apart_at s.at t.at lt (f ∙ sym e))

-- what a slot's value is
pub value_here : {V : Type 0} (row : List (Slot V)) (s : Slot V) → Rises row → Has row s → value_in row s.at ≡ s.value
value_here [] s r i = absurd i
value_here {V = V} (x ∷ row) s r i =
    ⊎_elim
    (λ (e : s ≡ x). ap (λ b. cond b x.value (value_in row s.at)) (same_at x.at s.at (sym (ap (λ (y : Slot V). y.at) e))) ∙ sym (ap (λ (y : Slot V). y.value) e))
    (λ (j : Has row s). ap (λ b. cond b x.value (value_in row s.at)) (above x s s.at (r.0 s j) refl) ∙ value_here row s r.1 j) i

pub value_none : {V : Type 0} (row : List (Slot V)) (c : At) → ((s : Slot V) → Has row s → s.at ≡ c → ⊥) → value_in row c ≡ None
value_none [] c none = refl
value_none (x ∷ row) c none =
    ap (λ b. cond b x.value (value_in row c)) (other_at x.at c (none x (inl refl))) ∙ value_none row c (λ s i. none s (inr i))

-- the slot from which a value is
pub value_slot : {V : Type 0} (row : List (Slot V)) (c : At) (v : V) → value_in row c ≡ Some v → (s : Slot V) × Has row s × (s.at ≡ c) × (s.value ≡ Some v)
value_slot [] c v h = absurd (cc)
value_slot {V = V} (x ∷ row) c v h =
    elim (at_eq x.at c) as (λ b. at_eq x.at c ≡ b → cond b x.value (value_in row c) ≡ Some v → (s : Slot V) × Has (x ∷ row) s × (s.at ≡ c) × (s.value ≡ Some v)) [
      | true ↦ λ e g. (x, inl refl, says_at x.at c e, g)
      | false ↦ λ e g. let w = value_slot row c v g in (w.0, inr w.1, w.2, w.3)
    ] refl h

pub slot_there : {V : Type 0} (row : List (Slot V)) (i : ℕ) (c : At) (d : Slot V) → IsSlotAt row i c → Has row (get_or row i d)
slot_there row i c d at = has_at row i d at.0

pub value_at_slot : {V : Type 0} (row : List (Slot V)) (i : ℕ) (c : At) (d : Slot V) → Rises row → IsSlotAt row i c → value_in row c ≡ (get_or row i d).value
value_at_slot {V = V} row i c d r at =
    ap (value_in row) (sym (at.1 d)) ∙ value_here row (get_or row i d) r (slot_there row i c d at)

pub gap_absent : {V : Type 0} (row : List (Slot V)) (i : ℕ) (c : At) → IsGapAt row i c → (s : Slot V) → Has row s → s.at ≡ c → ⊥
gap_absent {V = V} row i c gap s h e =
    let w = contains_has row s h in
    let f : (get_or row w.0 s).at ≡ c = ap (λ (x : Slot V). x.at) w.2 ∙ e in
    elim (cases_lt w.0 i) [
      | inl lt ↦ apart_at (get_or row w.0 s).at c (gap.below w.0 s lt) f
      | inr le ↦ apart_at c (get_or row w.0 s).at (gap.above w.0 s le w.1) (sym f)
    ]

pub value_at_gap : {V : Type 0} (row : List (Slot V)) (i : ℕ) (c : At) → IsGapAt row i c → value_in row c ≡ None
value_at_gap row i c gap = value_none row c (gap_absent row i c gap)

-- a slot is written again
has_set : {V : Type 0} (row : List (Slot V)) (i : ℕ) (s t : Slot V) → Has (slice_set row i s) t → Has row t ⊎ (t ≡ s)
has_set [] i s t h = absurd h
has_set (x ∷ row) zero s t h = ⊎_elim (λ (e : t ≡ s). inr e) (λ (j : Has row t). inl (inr j)) h
has_set (x ∷ row) (suc i) s t h = ⊎_elim (λ (e : t ≡ x). inl (inl e)) (λ (j : Has (slice_set row i s) t). ⊎_elim (λ (k : Has row t). inl (inr k)) (λ (e : t ≡ s). inr e) (has_set row i s t j)) h

pub rises_set : {V : Type 0} (row : List (Slot V)) (i : ℕ) (s : Slot V) → Rises row → IsSlotAt row i s.at → Rises (slice_set row i s)
rises_set [] i s r at = absurd (omega (arith, at.0))
rises_set {V = V} (x ∷ row) zero s r at = (λ t j. subst (λ (y : At). at_lt y t.at ≡ true) (at.1 x) (r.0 t j), r.1)
rises_set {V = V} (x ∷ row) (suc i) s r at =
    let next : IsSlotAt row i s.at = (omega (arith, at.0), λ d. at.1 d) in (
      λ t j. ⊎_elim (λ (k : Has row t). r.0 t k)
          (λ (e : t ≡ s). let l = r.0 (get_or row i s) (slot_there row i s.at s next) in let f = next.1 s in let g = ap (λ (y : Slot V). y.at) e in subst (λ (y : At). at_lt x.at y ≡ true) (f ∙ sym g) l) (has_set row i s t j),
      rises_set row i s r.1 next,
    )

pub value_set : {V : Type 0} (row : List (Slot V)) (i : ℕ) (s : Slot V) → Rises row → IsSlotAt row i s.at → (c : At) → value_in (slice_set row i s) c ≡ cond (at_eq s.at c) s.value (value_in row c)
value_set [] i s r at c = absurd (omega (arith, at.0))
value_set (x ∷ row) zero s r at c =
    let e : x.at ≡ s.at = at.1 x in
    elim (at_eq s.at c) as (λ b. at_eq s.at c ≡ b → cond b s.value (value_in row c) ≡ cond b s.value (value_in (x ∷ row) c)) [
      | true ↦ λ h. refl
      | false ↦ λ h. sym (ap (λ b. cond b x.value (value_in row c)) (ap (λ (n : At). at_eq n c) e ∙ h))
    ] refl
value_set (x ∷ row) (suc i) s r at c =
    let next : IsSlotAt row i s.at = (omega (arith, at.0), λ d. at.1 d) in
    let ih = value_set row i s r.1 next c in
    let l = r.0 (get_or row i s) (slot_there row i s.at s next) in
    let f = next.1 s in
    elim (at_eq x.at c) as (λ b. at_eq x.at c ≡ b → cond b x.value (value_in (slice_set row i s) c) ≡ cond (at_eq s.at c) s.value (cond b x.value (value_in row c))) [
      | true ↦ λ h. let g = says_at x.at c h in sym (ap (λ b. cond b s.value x.value) (other_at s.at c (λ k. apart_at x.at (get_or row i s).at l (g ∙ sym k ∙ sym f))))
      | false ↦ λ h. ih
    ] refl

-- a slot comes in between
abbrev put : {V : Type 0} → List (Slot V) → ℕ → Slot V → List (Slot V)
put row i s = take i row ++ s ∷ drop i row

has_put : {V : Type 0} (row : List (Slot V)) (i : ℕ) (s t : Slot V) → Has (put row i s) t → Has row t ⊎ (t ≡ s)
has_put [] zero s t h = ⊎_elim (λ (e : t ≡ s). inr e) (λ x. absurd x) h
has_put [] (suc i) s t h = ⊎_elim (λ (e : t ≡ s). inr e) (λ x. absurd x) h
has_put (x ∷ row) zero s t h = ⊎_elim (λ (e : t ≡ s). inr e) (λ (j : Has (x ∷ row) t). inl j) h
has_put (x ∷ row) (suc i) s t h = ⊎_elim (λ (e : t ≡ x). inl (inl e)) (λ (j : Has (put row i s) t). ⊎_elim (λ (k : Has row t). inl (inr k)) (λ (e : t ≡ s). inr e) (has_put row i s t j)) h

gap_next : {V : Type 0} (x : Slot V) (row : List (Slot V)) (i : ℕ) (c : At) → IsGapAt (x ∷ row) (suc i) c → IsGapAt row i c
gap_next x row i c gap = record {
  bound = omega (arith, gap.bound);
  below = λ k d lt. gap.below (suc k) d (omega (arith, lt));
  above = λ k d le lt. gap.above (suc k) d (omega (arith, le)) (omega (arith, lt));
}

pub rises_put : {V : Type 0} (row : List (Slot V)) (i : ℕ) (s : Slot V) → Rises row → IsGapAt row i s.at → Rises (put row i s)
rises_put [] zero s r gap = (λ t j. absurd j, tt)
rises_put [] (suc i) s r gap = absurd (omega (arith, gap.bound))
rises_put {V = V} (x ∷ row) zero s r gap = (
  λ t j. let w = contains_has (x ∷ row) t j in let l = gap.above w.0 t (omega arith) w.1 in subst (λ (y : Slot V). at_lt s.at y.at ≡ true) w.2 l,
  r,
)
rises_put {V = V} (x ∷ row) (suc i) s r gap = (
  λ t j. ⊎_elim (λ (k : Has row t). r.0 t k) (λ (e : t ≡ s). subst (λ (y : Slot V). at_lt x.at y.at ≡ true) (sym e) (gap.below zero x (omega arith))) (has_put row i s t j),
  rises_put row i s r.1 (gap_next x row i s.at gap),
)

pub value_put : {V : Type 0} (row : List (Slot V)) (i : ℕ) (s : Slot V) → ((t : Slot V) → Has row t → t.at ≡ s.at → ⊥) → (c : At) → value_in (put row i s) c ≡ cond (at_eq s.at c) s.value (value_in row c)
value_put [] zero s none c = refl
value_put [] (suc i) s none c = refl
value_put (x ∷ row) zero s none c = refl
value_put (x ∷ row) (suc i) s none c =
    let ih = value_put row i s (λ t j. none t (inr j)) c in
    elim (at_eq x.at c) as (λ b. at_eq x.at c ≡ b → cond b x.value (value_in (put row i s) c) ≡ cond (at_eq s.at c) s.value (cond b x.value (value_in row c))) [
      | true ↦ λ h. let g = says_at x.at c h in sym (ap (λ b. cond b s.value x.value) (other_at s.at c (λ k. none x (inl refl) (g ∙ sym k))))
      | false ↦ λ h. ih
    ] refl

-- and the row is that one
module _ {V : Type 0} (row mid new : List (Slot V)) (i : ℕ) (s : Slot V) (m : mid ≡ row) (n : new ≡ put mid i s) (gap : IsGapAt row i s.at) where
  row_is : new ≡ put row i s
  row_is = n ∙ ap (λ l. put l i s) m

  pub put_rises : Rises row → Rises new
  put_rises r = subst (λ (l : List (Slot V)). Rises l) (sym row_is) (rises_put row i s r gap)

  pub put_value : (c : At) → value_in new c ≡ cond (at_eq s.at c) s.value (value_in row c)
  put_value c = ap (λ (l : List (Slot V)). value_in l c) row_is ∙ value_put row i s (gap_absent row i s.at gap) c

-- an empty slot is none
pub value_empty : {V : Type 0} (row new : List (Slot V)) (s : Slot V) → s.value ≡ None → value_in row s.at ≡ None → ((c : At) → value_in new c ≡ cond (at_eq s.at c) s.value (value_in row c)) → (c : At) → value_in new c ≡ value_in row c
value_empty row new s e f law c =
    elim (at_eq s.at c) as (λ b. at_eq s.at c ≡ b → value_in new c ≡ value_in row c) [
      | true ↦ λ h. law c ∙ ap (λ b. cond b s.value (value_in row c)) h ∙ e ∙ sym f ∙ ap (value_in row) (says_at s.at c h)
      | false ↦ λ h. law c ∙ ap (λ b. cond b s.value (value_in row c)) h
    ] refl

-- a row is seen as a slice
module _ {V : Type 0} (row seen : List (Slot V)) (same_row : seen ≡ row) (i : ℕ) (c : At) where
  pub gap_none : IsGapAt seen i c → value_in row c ≡ None
  gap_none gap = ap (λ (l : List (Slot V)). value_in l c) (sym same_row) ∙ value_at_gap seen i c gap

  pub seen_value : (o : Option V) → ((call : At) → Rises seen → IsSlotAt seen i call → o ≡ value_in seen call) → Rises row → IsSlotAt row i c → o ≡ value_in row c
  seen_value o law r at =
      law c (subst (λ (l : List (Slot V)). Rises l) (sym same_row) r) (subst (λ (l : List (Slot V)). IsSlotAt l i c) (sym same_row) at) ∙ ap (λ (l : List (Slot V)). value_in l c) same_row

-- there was no value
pub none_left : {V : Type 0} (row : List (Slot V)) (call : At) → value_in row call ≡ None → (c : At) → value_in row c ≡ cond (at_eq call c) None (value_in row c)
none_left row call none c =
    elim (at_eq call c) as (λ b. at_eq call c ≡ b → value_in row c ≡ cond b None (value_in row c)) [
      | true ↦ λ h. ap (value_in row) (sym (says_at call c h)) ∙ none
      | false ↦ λ h. refl
    ] refl

pub err_kept : {V X E : Type 0} (new old : Slots V) (r : Result X E) → ((n : OpName) → value_of new n ≡ value_of old n) → OnErr r ((n : OpName) → value_of new n ≡ value_of old n)
err_kept new old (Ok x) p = tt
err_kept new old (Err e) p = p

-- the lists of the ranks
pub slots_more : {V : Type 0} (rows : Slots V) (row : Vec (Slot V) Global) → row.items ≡ [] → (r : ℕ) → slots_at (rows ++ row ∷ []) r ≡ slots_at rows r
slots_more [] row e zero = e
slots_more [] row e (suc r) = refl
slots_more (x ∷ rows) row e zero = refl
slots_more (x ∷ rows) row e (suc r) = slots_more rows row e r

pub slots_out : {V : Type 0} (rows : Slots V) (r : ℕ) → length rows ≤ r → slots_at rows r ≡ []
slots_out [] r le = refl
slots_out (x ∷ rows) zero le = absurd (omega (arith, le))
slots_out (x ∷ rows) (suc r) le = slots_out rows r (omega (arith, le))

pub slots_within : {V : Type 0} (rows : Slots V) (r : ℕ) (d : Vec (Slot V) Global) → r < length rows → slots_at rows r ≡ (get_or rows r d).items
slots_within [] r d lt = absurd (omega (arith, lt))
slots_within (x ∷ rows) zero d lt = refl
slots_within (x ∷ rows) (suc r) d lt = slots_within rows r d (omega (arith, lt))

pub slots_set : {V : Type 0} (rows : Slots V) (i : ℕ) (row : Vec (Slot V) Global) → i < length rows → (r : ℕ) → slots_at (slice_set rows i row) r ≡ cond (eqb i r) row.items (slots_at rows r)
slots_set [] i row lt r = absurd (omega (arith, lt))
slots_set (x ∷ rows) zero row lt zero = refl
slots_set (x ∷ rows) zero row lt (suc r) = sym (ap (λ b. cond b row.items (slots_at rows r)) (other zero (suc r) (λ e. omega (arith, e))))
slots_set (x ∷ rows) (suc i) row lt zero = sym (ap (λ b. cond b row.items x.items) (other (suc i) zero (λ e. omega (arith, e))))
slots_set (x ∷ rows) (suc i) row lt (suc r) = slots_set rows i row (omega (arith, lt)) r ∙ sym (ap (λ b. cond b row.items (slots_at rows r)) (next i r))

pub are_same : {V : Type 0} (old new : Slots V) → AreSlots old → ((r : ℕ) → slots_at new r ≡ slots_at old r) → AreSlots new
are_same {V = V} old new are law = record { rise = λ r. subst (λ (l : List (Slot V)). Rises l) (sym (law r)) (are.rise r) }

-- one rank's list becomes another
module _ {V : Type 0} (old new : Slots V) (rank : ℕ) (row : List (Slot V)) (law : (r : ℕ) → slots_at new r ≡ cond (eqb rank r) row (slots_at old r)) where
  pub are_set : AreSlots old → Rises row → AreSlots new
  are_set are rise = record {
    rise = λ r. subst (λ (l : List (Slot V)). Rises l) (sym (law r)) (
        elim (eqb rank r) as (λ b. Rises (cond b row (slots_at old r))) [
          | true ↦ rise
          | false ↦ are.rise r
        ]);
  }

  pub value_row : (call : At) (v : Option V) → ((c : At) → value_in row c ≡ cond (at_eq call c) v (value_in (slots_at old rank) c)) →
      (n : OpName) → value_of new n ≡ cond (eqb rank n.rank && at_eq call (at_of n)) v (value_of old n)
  value_row call v put n =
      ap (λ (l : List (Slot V)). value_in l (at_of n)) (law n.rank)
      ∙ elim (eqb rank n.rank) as (λ b. eqb rank n.rank ≡ b → value_in (cond b row (slots_at old n.rank)) (at_of n) ≡ cond (b && at_eq call (at_of n)) v (value_of old n)) [
        | true ↦ λ h. put (at_of n) ∙ ap (λ r. cond (at_eq call (at_of n)) v (value_in (slots_at old r) (at_of n))) (says rank n.rank h)
        | false ↦ λ h. refl
      ] refl

  pub value_kept : ((c : At) → value_in row c ≡ value_in (slots_at old rank) c) → (n : OpName) → value_of new n ≡ value_of old n
  value_kept keep n =
      ap (λ (l : List (Slot V)). value_in l (at_of n)) (law n.rank)
      ∙ elim (eqb rank n.rank) as (λ b. eqb rank n.rank ≡ b → value_in (cond b row (slots_at old n.rank)) (at_of n) ≡ value_of old n) [
        | true ↦ λ h. keep (at_of n) ∙ ap (λ r. value_in (slots_at old r) (at_of n)) (says rank n.rank h)
        | false ↦ λ h. refl
      ] refl

-- the lists are longer
pub value_reached : {V : Type 0} (old new : Slots V) → ((r : ℕ) → slots_at new r ≡ slots_at old r) → (n : OpName) → value_of new n ≡ value_of old n
value_reached {V = V} old new law n = ap (λ (l : List (Slot V)). value_in l (at_of n)) (law n.rank)

-- or not so long
pub value_out : {V : Type 0} (rows : Slots V) (n : OpName) → length rows ≤ n.rank → value_of rows n ≡ None
value_out {V = V} rows n le = ap (λ (l : List (Slot V)). value_in l (at_of n)) (slots_out rows n.rank le)

pub left_out : {V : Type 0} (rows : Slots V) (n : OpName) → length rows ≤ n.rank → (k : OpName) → value_of rows k ≡ cond (eqb n.rank k.rank && at_eq (at_of n) (at_of k)) None (value_of rows k)
left_out rows n le k =
    elim (eqb n.rank k.rank && at_eq (at_of n) (at_of k)) as (λ b. (eqb n.rank k.rank && at_eq (at_of n) (at_of k)) ≡ b → value_of rows k ≡ cond b None (value_of rows k)) [
      | true ↦ λ h. let e = says n.rank k.rank (both (eqb n.rank k.rank) (at_eq (at_of n) (at_of k)) h).0 in value_out rows k (omega (arith, le, e))
      | false ↦ λ h. refl
    ] refl

-- the list of a rank was changed where it stands
module _ {V : Type 0} (rows : Slots V) (rank : ℕ) (d row : Vec (Slot V) Global) (lt : rank < length rows) (is : d ≡ get_or rows rank d) where
  row_was : d.items ≡ slots_at rows rank
  row_was = ap (λ (v : Vec (Slot V) Global). v.items) is ∙ sym (slots_within rows rank d lt)

  pub row_rises : AreSlots rows → Rises d.items
  row_rises are = subst (λ (l : List (Slot V)). Rises l) (sym row_was) (are.rise rank)

  pub row_value : (call : At) → value_in d.items call ≡ value_in (slots_at rows rank) call
  row_value call = ap (λ (l : List (Slot V)). value_in l call) row_was

  pub new_slots : AreSlots rows → Rises row.items → AreSlots (slice_set rows rank row)
  new_slots are rise = are_set rows (slice_set rows rank row) rank row.items (slots_set rows rank row lt) are rise

  pub new_value : (call : At) (v : Option V) → ((c : At) → value_in row.items c ≡ cond (at_eq call c) v (value_in d.items c)) →
      (k : OpName) → value_of (slice_set rows rank row) k ≡ cond (eqb rank k.rank && at_eq call (at_of k)) v (value_of rows k)
  new_value call v law k = value_row rows (slice_set rows rank row) rank row.items (slots_set rows rank row lt) call v (λ c. law c ∙ ap (λ x. cond (at_eq call c) v x) (row_value c)) k

  pub new_kept : ((c : At) → value_in row.items c ≡ value_in d.items c) → (k : OpName) → value_of (slice_set rows rank row) k ≡ value_of rows k
  new_kept law k = value_kept rows (slice_set rows rank row) rank row.items (slots_set rows rank row lt) (λ c. law c ∙ row_value c) k

-- what is in the slots is an entry, and nothing else is
entry_parts : {V : Type 0} (rank : ℕ) (call : At) (o : Option V) (n : OpName) (v : V) → option_map (named rank call) o ≡ Some (n, v) → (n.rank ≡ rank) × (at_of n ≡ call) × (o ≡ Some v)
entry_parts rank call None n v h = absurd (cc)
entry_parts {V = V} rank call (Some x) n v h =
    let e : named rank call x ≡ (n, v) = cc in
    (sym (ap (λ (p : OpName × V). p.0.rank) e), sym (ap (λ (p : OpName × V). at_of p.0) e), ap (λ (p : OpName × V). Some p.1) e)

row_entry : {V : Type 0} (row : List (Slot V)) (rank : ℕ) (n : OpName) (v : V) → n.rank ≡ rank → value_in row (at_of n) ≡ Some v → Has (filter_map (entry_in rank) row) (n, v)
row_entry {V = V} row rank n v e h =
    let w = value_slot row (at_of n) v h in
    let k : record { rank = rank; call = w.0.at.call; part = w.0.at.part } ≡ n = same_name (record { rank = rank; call = w.0.at.call; part = w.0.at.part }) n (sym e) (ap (λ (x : At). x.call) w.2) (ap (λ (x : At). x.part) w.2) in
    gives_some (entry_in rank) row w.0 (n, v) w.1 (ap (option_map (named rank w.0.at)) w.3 ∙ ap (λ (m : OpName). Some (m, v)) k)

entry_value : {V : Type 0} (row : List (Slot V)) (rank : ℕ) (n : OpName) (v : V) → Rises row → Has (filter_map (entry_in rank) row) (n, v) → (n.rank ≡ rank) × (value_in row (at_of n) ≡ Some v)
entry_value {V = V} row rank n v r i =
    let w = from_some (entry_in rank) row (n, v) i in
    let p = entry_parts rank w.0.at w.0.value n v w.2 in
    (p.0, ap (value_in row) p.1 ∙ value_here row w.0 r w.1 ∙ p.2)

entry_from : {V : Type 0} (rows : Slots V) (first r : ℕ) (n : OpName) (v : V) → n.rank ≡ first + r → value_in (slots_at rows r) (at_of n) ≡ Some v → Has (entries_from first rows) (n, v)
entry_from [] first r n v e h = absurd (cc)
entry_from (row ∷ rows) first zero n v e h =
    has_left (filter_map (entry_in first) row.items) (entries_from (suc first) rows) (n, v) (row_entry row.items first n v (omega (arith, e)) h)
entry_from (row ∷ rows) first (suc r) n v e h =
    has_right (filter_map (entry_in first) row.items) (entries_from (suc first) rows) (n, v) (entry_from rows (suc first) r n v (omega (arith, e)) h)

value_from : {V : Type 0} (rows : Slots V) (first : ℕ) (n : OpName) (v : V) → ((r : ℕ) → Rises (slots_at rows r)) → Has (entries_from first rows) (n, v) → (r : ℕ) × (n.rank ≡ first + r) × (value_in (slots_at rows r) (at_of n) ≡ Some v)
value_from [] first n v rise i = absurd i
value_from (row ∷ rows) first n v rise i =
    ⊎_elim
    (λ (j : Has (filter_map (entry_in first) row.items) (n, v)). let w = entry_value row.items first n v (rise zero) j in (zero, omega (arith, w.0), w.1))
    (λ (j : Has (entries_from (suc first) rows) (n, v)). let w = value_from rows (suc first) n v (λ r. rise (suc r)) j in (suc w.0, omega (arith, w.1), w.2))
    (has_either (filter_map (entry_in first) row.items) (entries_from (suc first) rows) (n, v) i)

pub has_entry : {V : Type 0} (rows : Slots V) (n : OpName) (v : V) → value_of rows n ≡ Some v → Has (entries_of rows) (n, v)
has_entry rows n v h = entry_from rows zero n.rank n v (omega arith) h

pub entry_has : {V : Type 0} (rows : Slots V) → AreSlots rows → (n : OpName) (v : V) → Has (entries_of rows) (n, v) → value_of rows n ≡ Some v
entry_has rows are n v i =
    let w = value_from rows zero n v are.rise i in
    let e : w.0 ≡ n.rank = omega (arith, w.1) in
    ap (λ r. value_in (slots_at rows r) (at_of n)) (sym e) ∙ w.2

-- what halving finds in a row
at_total : IsTotalOrder at_cmp
at_total = then_total (on_total (λ (x : At). x.call) nat_cmp_total) (on_total (λ (x : At). x.part) nat_cmp_total)

by_parts : (x y : Ordering) → x ≡ Equal → ordering_then x y ≡ y
by_parts x y e = ap (λ (o : Ordering). ordering_then o y) e

first_of : (x y z : Ordering) → x ≡ z → (z ≡ Equal → ⊥) → ordering_then x y ≡ z
first_of x y Less e n = ap (λ (o : Ordering). ordering_then o y) e
first_of x y Equal e n = absurd (n refl)
first_of x y Greater e n = ap (λ (o : Ordering). ordering_then o y) e

cmp_less : (a b : ℕ) → a < b → nat_cmp a b ≡ Less
cmp_less a b h = grind (arith, nat_tests)

cmp_more : (a b : ℕ) → b < a → nat_cmp a b ≡ Greater
cmp_more a b h = grind (arith, nat_tests)

cmp_tied : (a b : ℕ) → a ≡ b → nat_cmp a b ≡ Equal
cmp_tied a b h = grind (arith, nat_tests)

less_cmp : (a b : At) → at_lt a b ≡ true → at_cmp a b ≡ Less
less_cmp a b h =
    elim (cases_lt a.call b.call) [
      | inl lt ↦ first_of (nat_cmp a.call b.call) (nat_cmp a.part b.part) Less (cmp_less a.call b.call lt) (λ e. absurd (cc))
      | inr le ↦
          let e : a.call ≡ b.call = grind (arith, nat_tests) in
          let lt : a.part < b.part = grind (arith, nat_tests) in
          by_parts (nat_cmp a.call b.call) (nat_cmp a.part b.part) (cmp_tied a.call b.call e) ∙ cmp_less a.part b.part lt
    ]

more_cmp : (a b : At) → at_lt b a ≡ true → at_cmp a b ≡ Greater
more_cmp a b h =
    elim (cases_lt b.call a.call) [
      | inl lt ↦ first_of (nat_cmp a.call b.call) (nat_cmp a.part b.part) Greater (cmp_more a.call b.call lt) (λ e. absurd (cc))
      | inr le ↦
          let e : a.call ≡ b.call = grind (arith, nat_tests) in
          let lt : b.part < a.part = grind (arith, nat_tests) in
          by_parts (nat_cmp a.call b.call) (nat_cmp a.part b.part) (cmp_tied a.call b.call e) ∙ cmp_more a.part b.part lt
    ]

-- one stands before the other, or they are one
at_cases : (a b : At) → (at_lt a b ≡ true) ⊎ ((at_lt b a ≡ true) ⊎ (a ≡ b))
at_cases a b =
    elim (cases_lt a.call b.call) [
      | inl lt ↦ inl (grind (arith, nat_tests))
      | inr le ↦ elim (cases_lt b.call a.call) [
        | inl lt ↦ inr (inl (grind (arith, nat_tests)))
        | inr ge ↦ elim (cases_lt a.part b.part) [
          | inl lt ↦ inl (grind (arith, nat_tests))
          | inr more ↦ elim (cases_lt b.part a.part) [
            | inl lt ↦ inr (inl (grind (arith, nat_tests)))
            | inr less ↦ inr (inr (at_is a b (omega arith) (omega arith)))
          ]
        ]
      ]
    ]

tied_cmp : (a b : At) → a ≡ b → at_cmp a b ≡ Equal
tied_cmp a b e =
    by_parts (nat_cmp a.call b.call) (nat_cmp a.part b.part) (cmp_tied a.call b.call (ap (λ (x : At). x.call) e)) ∙ cmp_tied a.part b.part (ap (λ (x : At). x.part) e)

less_is : (a b : At) → at_cmp a b ≡ Less → at_lt a b ≡ true
less_is a b h =
    ⊎_elim (λ (x : at_lt a b ≡ true). x)
    (λ d. ⊎_elim (λ (x : at_lt b a ≡ true). let e = sym h ∙ more_cmp a b x in absurd (cc)) (λ (x : a ≡ b). let e = sym h ∙ tied_cmp a b x in absurd (cc)) d) (at_cases a b)

tied_is : (a b : At) → at_cmp a b ≡ Equal → a ≡ b
tied_is a b h =
    ⊎_elim (λ (x : at_lt a b ≡ true). let e = sym h ∙ less_cmp a b x in absurd (cc))
    (λ d. ⊎_elim (λ (x : at_lt b a ≡ true). let e = sym h ∙ more_cmp a b x in absurd (cc)) (λ (x : a ≡ b). x) d) (at_cases a b)

more_is : (a b : At) → at_cmp a b ≡ Greater → at_lt b a ≡ true
more_is a b h =
    ⊎_elim (λ (x : at_lt a b ≡ true). let e = sym h ∙ less_cmp a b x in absurd (cc))
    (λ d. ⊎_elim (λ (x : at_lt b a ≡ true). x) (λ (x : a ≡ b). let e = sym h ∙ tied_cmp a b x in absurd (cc)) d) (at_cases a b)

not_less : (a b : At) → at_lt a b ≡ true → is_lt (at_cmp b a) ≡ false
not_less a b lt = ap is_lt (more_cmp b a lt)

rises_at : {V : Type 0} (row : List (Slot V)) → Rises row → (k : ℕ) (d : Slot V) → suc k < length row → at_lt (get_or row k d).at (get_or row (suc k) d).at ≡ true
rises_at [] r k d h = absurd (omega (arith, h))
rises_at (s ∷ []) r k d h = absurd (omega (arith, h))
rises_at (s ∷ t ∷ row) r zero d h = r.0 t (inl refl)
rises_at (s ∷ t ∷ row) r (suc k) d h = rises_at (t ∷ row) r.1 k d (omega (arith, h))

sorted : {V : Type 0} (row : List (Slot V)) → Rises row → IsSortedBy (λ a b. is_lt (at_cmp a.at b.at)) row
sorted {V = V} row r k d l h =
    let n : suc k ≡ k + 1 = omega arith in
    subst (λ (i : ℕ). is_lt (at_cmp (get_or row i d).at (get_or row k d).at) ≡ false) n
    (not_less (get_or row k d).at (get_or row (suc k) d).at (rises_at row r k d (omega (arith, h))))

pub search_found : {V : Type 0} (row : List (Slot V)) (call : At) (r : Result ℕ ℕ) → IsSearchInRange r (length row) → IsBinarySearchResult (λ s. at_cmp s.at call) row r → IfOk r (λ i. IsSlotAt row i call)
search_found row call (Ok i) b p = (b, λ d. tied_is (get_or row i d).at call (p d))
search_found row call (Err i) b p = tt

pub search_missed : {V : Type 0} (row : List (Slot V)) (call : At) (r : Result ℕ ℕ) → Rises row → IsSearchInRange r (length row) → IsBinarySearchResult (λ s. at_cmp s.at call) row r → IfErr r (λ i. IsGapAt row i call)
search_missed row call (Ok i) rise b p = tt
search_missed {V = V} row call (Err i) rise b p =
    let split = p (searchable_from_sorted at_total (λ (s : Slot V). s.at) row call (sorted row rise)) in
    record {
      bound = b;
      below = λ k d lt. less_is (get_or row k d).at call (split.0 k d (omega arith) lt);
      above = λ k d le lt. more_is (get_or row k d).at call (split.1 k d le lt);
    }
