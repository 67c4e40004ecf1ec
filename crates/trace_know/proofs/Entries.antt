-- Each cell of a view stands once among its entries, and they rise.
use Rattle.std.proofs.Common.{◌≡◌, ℕ, Bool, true, false, ◌&&◌, T, Option, Some, None, List, [], ◌∷◌, map, refl, sym, ap, subst, ◌∙◌, inl, inr, arith}
use Rattle.std.specs.Prelude.{Contains, IsSome}
use Rattle.std.specs.List.{AllByRecursion}
use Rattle.std.specs.List.Sorted.{IsStrictlySortedBy}
use Rattle.std.specs.Ordering.{is_eq, is_lt, eq_by_cmp}
use Rattle.std.specs.declared.cmp.Ordering.{Ordering}
use Rattle.std.specs.declared.cmp.Ordering.TheVariants.{Less, Equal, Greater}
use Rattle.std.specs.Cmp.{eq_by_cmp_equiv}
use Rattle.std.specs.FinMap.{get, entries, entries_sorted, find, is_sorted, get-entries}
use Rattle.std.specs.FinMap.Entries.{below_all}
use Rattle.trace_know.specs.declared.cell.Known.{Known}
use Rattle.trace_know.specs.declared.cell.Known.TheVariants.{One, Contradiction}
use Rattle.trace_know.specs.Listing.{as_shown, cells_of, conflicts_in, conflicts_of}
use Rattle.trace_know.specs.View.{View, place_cmp}
use Rattle.trace_know.proofs.Joins.{places_total, exact_places, equal}
use Rattle.trace_know.proofs.Membership.{here, there, split}
use Rattle.trace_know.proofs.SameEvents.{false_or_true}

abbrev Entries : Type 0
Entries = List ((ℕ × ℕ) × Known)

-- ---- the keys rise

first : (a b : Bool) → (a && b) ≡ true → a ≡ true
first true b h = refl
first false b h = absurd cc

second : (a b : Bool) → (a && b) ≡ true → b ≡ true
second true b h = h
second false b h = absurd cc

less : (r : Ordering) → is_lt r ≡ true → r ≡ Less
less Less h = refl
less Equal h = absurd cc
less Greater h = absurd cc

holds : (b : Bool) → T b → b ≡ true
holds true h = refl
holds false h = absurd h

all_less : (k : ℕ × ℕ) (es : Entries) → below_all place_cmp k es ≡ true → AllByRecursion (λ y. place_cmp k y ≡ Less) (map (λ e. e.0) es)
all_less k [] h = tt
all_less k (e ∷ es) h = (less _ (first _ _ h), all_less k es (second _ _ h))

rise : (es : Entries) → is_sorted place_cmp es ≡ true → IsStrictlySortedBy place_cmp (map (λ e. e.0) es)
unfolding IsStrictlySortedBy
rise [] h = tt
rise (e ∷ es) h = (all_less e.0 es (first _ _ h), rise es (second _ _ h))

entries_rise : (v : View) → IsStrictlySortedBy place_cmp (map (λ e. e.0) (entries v))
entries_rise v = rise (entries v) (holds _ (entries_sorted v))

same_keys : (es : Entries) → map (λ at. at.0) (map as_shown es) ≡ map (λ e. e.0) es
same_keys [] = refl
same_keys (e ∷ es) = ap (λ (ks : List (ℕ × ℕ)). e.0 ∷ ks) (same_keys es)

pub cells_rise : (v : View) → IsStrictlySortedBy place_cmp (map (λ at. at.0) (cells_of v))
cells_rise v = subst (λ (ks : List (ℕ × ℕ)). IsStrictlySortedBy place_cmp ks) (sym (same_keys (entries v))) (entries_rise v)

later_conflicts : (k : ℕ × ℕ) (es : Entries) → AllByRecursion (λ y. place_cmp k y ≡ Less) (map (λ e. e.0) es) → AllByRecursion (λ y. place_cmp k y ≡ Less) (conflicts_in es)
later_conflicts k [] h = tt
later_conflicts k ((q, One e) ∷ es) h = later_conflicts k es h.1
later_conflicts k ((q, Contradiction) ∷ es) h = (h.0, later_conflicts k es h.1)

conflicts_sorted : (es : Entries) → IsStrictlySortedBy place_cmp (map (λ e. e.0) es) → IsStrictlySortedBy place_cmp (conflicts_in es)
unfolding IsStrictlySortedBy
conflicts_sorted [] h = tt
conflicts_sorted ((q, One e) ∷ es) h = conflicts_sorted es h.1
conflicts_sorted ((q, Contradiction) ∷ es) h = (later_conflicts q es h.0, conflicts_sorted es h.1)

pub conflicts_rise : (v : View) → IsStrictlySortedBy place_cmp (conflicts_of v)
conflicts_rise v = conflicts_sorted (entries v) (entries_rise v)

-- ---- each cell, once

find-first : (q : ℕ × ℕ) (e : (ℕ × ℕ) × Known) (es : Entries) → eq_by_cmp place_cmp q e.0 ≡ true → find place_cmp q (e ∷ es) ≡ Some e.1
find-first q e es h = rw h refl

find-next : (q : ℕ × ℕ) (e : (ℕ × ℕ) × Known) (es : Entries) → eq_by_cmp place_cmp q e.0 ≡ false → find place_cmp q (e ∷ es) ≡ find place_cmp q es
find-next q e es h = rw h refl

none_below : (q : ℕ × ℕ) (es : Entries) → AllByRecursion (λ y. place_cmp q y ≡ Less) (map (λ e. e.0) es) → find place_cmp q es ≡ None
none_below q [] h = refl
none_below q (e ∷ es) h = find-next q e es (ap is_eq h.0) ∙ none_below q es h.1

listed : (es : Entries) (q : ℕ × ℕ) (k : Known) → find place_cmp q es ≡ Some k → Contains (map as_shown es) (q, Some k)
listed [] q k h = absurd cc
listed (e ∷ es) q k h = elim (false_or_true (eq_by_cmp place_cmp q e.0)) [
  | inl t ↦
      let at : e.0 ≡ q = sym (exact_places q e.0 (equal _ t)) in
      let known : Some e.1 ≡ Some k = sym (find-first q e es t) ∙ h in
      subst (λ (x : (ℕ × ℕ) × Option Known). Contains (map as_shown (e ∷ es)) x) (λ i. (at i, known i)) (here (as_shown e) (map as_shown es))
  | inr f ↦ there (as_shown e) (q, Some k) (map as_shown es) (listed es q k (sym (find-next q e es f) ∙ h))
]

not_some : (o : Option Known) → o ≡ None → IsSome o → ⊥
not_some None e h = absurd cc
not_some (Some k) e h = absurd cc

found : (es : Entries) → IsStrictlySortedBy place_cmp (map (λ e. e.0) es) → (q : ℕ × ℕ) (c : Option Known) → Contains (map as_shown es) (q, c) → (find place_cmp q es ≡ c) × IsSome c
unfolding IsStrictlySortedBy
found [] s q c h = absurd (omega (arith, h.1))
found (e ∷ es) s q c h = elim (split (as_shown e) (q, c) (map as_shown es) h) [
  | inl is ↦
      let at : e.0 ≡ q = ap (λ (x : (ℕ × ℕ) × Option Known). x.0) is in
      let known : Some e.1 ≡ c = ap (λ (x : (ℕ × ℕ) × Option Known). x.1) is in
      let tied : eq_by_cmp place_cmp q e.0 ≡ true = subst (λ (x : ℕ × ℕ). eq_by_cmp place_cmp x e.0 ≡ true) at ((eq_by_cmp_equiv places_total).refl e.0) in
      (find-first q e es tied ∙ known, subst (λ (o : Option Known). IsSome o) known refl)
  | inr m ↦
      let rest = found es s.1 q c m in
      let apart : eq_by_cmp place_cmp q e.0 ≡ false = elim (false_or_true (eq_by_cmp place_cmp q e.0)) [
        | inl t ↦ absurd (not_some (find place_cmp q es) (ap (λ (x : ℕ × ℕ). find place_cmp x es) (exact_places q e.0 (equal _ t)) ∙ none_below e.0 es s.0) (subst (λ (o : Option Known). IsSome o) (sym rest.0) rest.1))
        | inr f ↦ f
      ] in
      (find-next q e es apart ∙ rest.0, rest.1)
]

pub cell_listed : (v : View) (q : ℕ × ℕ) (c : Option Known) → (get v q ≡ c) × IsSome c → Contains (cells_of v) (q, c)
cell_listed v q None h = absurd (not_some None refl h.1)
cell_listed v q (Some k) h = listed (entries v) q k (sym (get-entries v q) ∙ h.0)

pub listed_cell : (v : View) (q : ℕ × ℕ) (c : Option Known) → Contains (cells_of v) (q, c) → (get v q ≡ c) × IsSome c
listed_cell v q c h = let cells = found (entries v) (entries_rise v) q c h in (get-entries v q ∙ cells.0, cells.1)

-- ---- the contradictions

conflict_among : (es : Entries) (q : ℕ × ℕ) → Contains (conflicts_in es) q → Contains (map as_shown es) (q, Some Contradiction)
conflict_among [] q h = absurd (omega (arith, h.1))
conflict_among ((p, One e) ∷ es) q h = there (p, Some (One e)) (q, Some Contradiction) (map as_shown es) (conflict_among es q h)
conflict_among ((p, Contradiction) ∷ es) q h = elim (split p q (conflicts_in es) h) [
  | inl is ↦ subst (λ (x : ℕ × ℕ). Contains (map as_shown ((p, Contradiction) ∷ es)) (x, Some Contradiction)) is (here (p, Some Contradiction) (map as_shown es))
  | inr m ↦ there (p, Some Contradiction) (q, Some Contradiction) (map as_shown es) (conflict_among es q m)
]

among_conflicts : (es : Entries) (q : ℕ × ℕ) → Contains (map as_shown es) (q, Some Contradiction) → Contains (conflicts_in es) q
among_conflicts [] q h = absurd (omega (arith, h.1))
among_conflicts ((p, One e) ∷ es) q h = elim (split (p, Some (One e)) (q, Some Contradiction) (map as_shown es) h) [
  | inl is ↦ let other : Some (One e) ≡ Some Contradiction = ap (λ (x : (ℕ × ℕ) × Option Known). x.1) is in absurd cc
  | inr m ↦ among_conflicts es q m
]
among_conflicts ((p, Contradiction) ∷ es) q h = elim (split (p, Some Contradiction) (q, Some Contradiction) (map as_shown es) h) [
  | inl is ↦ subst (λ (x : ℕ × ℕ). Contains (p ∷ conflicts_in es) x) (ap (λ (x : (ℕ × ℕ) × Option Known). x.0) is) (here p (conflicts_in es))
  | inr m ↦ there p q (conflicts_in es) (among_conflicts es q m)
]

pub conflict_cell : (v : View) (q : ℕ × ℕ) → Contains (conflicts_of v) q → get v q ≡ Some Contradiction
conflict_cell v q h = (listed_cell v q (Some Contradiction) (conflict_among (entries v) q h)).0

pub cell_conflict : (v : View) (q : ℕ × ℕ) → get v q ≡ Some Contradiction → Contains (conflicts_of v) q
cell_conflict v q h = among_conflicts (entries v) q (cell_listed v q (Some Contradiction) (h, refl))
