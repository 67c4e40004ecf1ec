-- Cells that are put behind the last of a knowledge.
use Rattle.std.proofs.Common.{◌≡◌, ℕ, ◌+◌, ◌<◌, ◌≤◌, true, List, [], ◌∷◌, ◌++◌, length, Option, Some, None, refl, sym, ap, subst, ◌∙◌, arith, inl, inr, ◌⊎◌}
use Rattle.std.specs.Prelude.{IsSome}
use Rattle.std.specs.Ordering.{nat_cmp, is_eq, eq_by_cmp}
use Rattle.std.specs.declared.cmp.Ordering.{Ordering}
use Rattle.std.specs.declared.cmp.Ordering.TheVariants.{Less, Equal, Greater}
use Rattle.std.specs.Cmp.{IsTotalOrder, nat_cmp_total}
use Rattle.std.specs.FinMap.{empty, insert, entries, find, put, get-entries, entries-insert, len-entries, len-empty, IsAntisymmetric}
use Rattle.std.proofs.lemmas.List.{nil_from_length}
use Rattle.std.proofs.lemmas.Bool.{cases_lt}
use Rattle.std.proofs.lemmas.Bool.Decides.{nat_tests}
use Rattle.std.proofs.lemmas.Cmp.{on_total, then_total}
use Rattle.std.proofs.lemmas.Map.Lookups.{exact_pairs, exact_unsigned}
use Rattle.trace_know.specs.declared.cell.Known.{Known}
use Rattle.trace_know.specs.Placed.{IsPast}
use Rattle.trace_know.specs.Runs.{placed_cells}
use Rattle.trace_know.specs.View.{View, place_cmp}
use Rattle.trace_wire.specs.Cells.{Entry, is_past}
use Rattle.trace_wire.proofs.FormLaws.{chosen}

pub places_total : IsTotalOrder place_cmp
places_total = then_total (on_total (λ p. p.0) nat_cmp_total) (on_total (λ p. p.1) nat_cmp_total)

pub exact_places : IsAntisymmetric place_cmp
exact_places a b h = exact_pairs nat_cmp nat_cmp exact_unsigned exact_unsigned a b h

pub equal : (r : Ordering) → is_eq r ≡ true → r ≡ Equal
equal Equal h = refl
equal Less h = absurd cc
equal Greater h = absurd cc

-- a place is before another
abbrev pub Before : ℕ × ℕ → ℕ × ℕ → Type 0
Before a b = (a.0 < b.0) ⊎ ((a.0 ≡ b.0) × (a.1 < b.1))

less_rank : (r p s q : ℕ) → r < s → place_cmp (r, p) (s, q) ≡ Less
less_rank r p s q h = grind (arith, nat_tests)

less_place : (r p q : ℕ) → p < q → place_cmp (r, p) (r, q) ≡ Less
less_place r p q h = grind (arith, nat_tests)

more_rank : (r p s q : ℕ) → r < s → place_cmp (s, q) (r, p) ≡ Greater
more_rank r p s q h = grind (arith, nat_tests)

more_place : (r p q : ℕ) → p < q → place_cmp (r, q) (r, p) ≡ Greater
more_place r p q h = grind (arith, nat_tests)

pub less : (a b : ℕ × ℕ) → Before a b → place_cmp a b ≡ Less
less a b h = elim h [
  | inl lt ↦ less_rank a.0 a.1 b.0 b.1 lt
  | inr e ↦ subst (λ (s : ℕ). place_cmp (a.0, a.1) (s, b.1) ≡ Less) e.0 (less_place a.0 a.1 b.1 e.1)
]

more : (a b : ℕ × ℕ) → Before a b → place_cmp b a ≡ Greater
more a b h = elim h [
  | inl lt ↦ more_rank a.0 a.1 b.0 b.1 lt
  | inr e ↦ subst (λ (s : ℕ). place_cmp (s, b.1) (a.0, a.1) ≡ Greater) e.0 (more_place a.0 a.1 b.1 e.1)
]

-- all cells stand before a place
abbrev pub AllBefore : ℕ × ℕ → List Entry → Type 0
AllBefore here [] = Unit {0}
AllBefore here (e ∷ es) = Before e.0 here × AllBefore here es

-- all cells stand up to a place; nothing was read yet where there is none
abbrev pub AllUpTo : Option (ℕ × ℕ) → List Entry → Type 0
AllUpTo last [] = Unit {0}
AllUpTo None (e ∷ es) = ⊥
AllUpTo (Some last) (e ∷ es) = (Before e.0 last ⊎ (e.0 ≡ last)) × AllUpTo (Some last) es

pub is_before : (a b : ℕ × ℕ) → is_past (Some a) b ≡ true → Before a b
is_before a b h = elim (cases_lt a.0 b.0) [
  | inl lt ↦ inl lt
  | inr le ↦ inr (grind (arith, nat_tests), grind (arith, nat_tests))
]

pub before_then : (a b c : ℕ × ℕ) → Before a b → Before b c → Before a c
before_then a b c h k = elim h [
  | inl lt ↦ elim k [ inl lt2 ↦ inl (omega arith) | inr e ↦ inl (omega (arith, e.0)) ]
  | inr e ↦ elim k [ inl lt2 ↦ inl (omega (arith, e.0)) | inr f ↦ inr (e.0 ∙ f.0, omega (arith, e.1, f.1)) ]
]

pub up_to_before : (last : Option (ℕ × ℕ)) (here : ℕ × ℕ) (es : List Entry) → is_past last here ≡ true → AllUpTo last es → AllBefore here es
up_to_before last here [] h a = tt
up_to_before None here (e ∷ es) h a = absurd a
up_to_before (Some last) here (e ∷ es) h a =
    let one = is_before last here h in
    let first : Before e.0 here = elim a.0 [ inl b ↦ before_then e.0 last here b one | inr is ↦ subst (λ (q : ℕ × ℕ). Before q here) (sym is) one ] in
    (first, up_to_before (Some last) here es h a.1)

pub before_up_to : (here : ℕ × ℕ) (k : Known) (es : List Entry) → AllBefore here es → AllUpTo (Some here) (es ++ (here, k) ∷ [])
before_up_to here k [] a = (inr refl, tt)
before_up_to here k (e ∷ es) a = (inl a.0, before_up_to here k es a.1)

-- what is put behind all others stands last
put_behind : (here : ℕ × ℕ) (k : Known) (es : List Entry) → AllBefore here es → put place_cmp here k es ≡ es ++ (here, k) ∷ []
put_behind here k [] a = refl
put_behind here k (e ∷ es) a = rw (more e.0 here a.0) (ap (λ (fs : List Entry). e ∷ fs) (put_behind here k es a.1))

pub insert-last : (v : View) (here : ℕ × ℕ) (k : Known) → AllBefore here (entries v) → entries (insert v here k) ≡ entries v ++ (here, k) ∷ []
insert-last v here k a = entries-insert places_total v here k ∙ put_behind here k (entries v) a

found_before : (here q : ℕ × ℕ) (es : List Entry) → AllBefore here es → IsSome (find place_cmp q es) → place_cmp q here ≡ Less
found_before here q [] a some = absurd cc
found_before here q (e ∷ es) a some = elim (chosen (eq_by_cmp place_cmp q e.0) (Some e.1) (find place_cmp q es) (find place_cmp q (e ∷ es)) refl) [
  | inl p ↦ subst (λ (x : ℕ × ℕ). place_cmp x here ≡ Less) (sym (exact_places q e.0 (equal _ p.0))) (less e.0 here a.0)
  | inr p ↦ found_before here q es a.1 (subst (λ (o : Option Known). IsSome o) (sym p.1) some)
]

pub past_all : (v : View) (rank place : ℕ) → AllBefore (rank, place) (entries v) → IsPast v rank place
past_all v rank place a r p some = found_before (rank, place) (r, p) (entries v) a (subst (λ (o : Option Known). IsSome o) (get-entries v (r, p)) some)

-- ---- the loop over cells

pub entries_none : entries (empty {X = Known} {R = place_cmp}) ≡ []
entries_none = nil_from_length (entries empty) (sym (len-entries empty) ∙ len-empty place_cmp Known)

-- ---- a run behind all others

up_to_both : (last : ℕ × ℕ) (es fs : List Entry) → AllUpTo (Some last) es → AllUpTo (Some last) fs → AllUpTo (Some last) (es ++ fs)
up_to_both last [] fs a b = b
up_to_both last (e ∷ es) fs a b = (a.0, up_to_both last es fs a.1 b)

run_up_to : (rank place end : ℕ) (ks : List Known) → place + length ks ≤ end → AllUpTo (Some (rank, end)) (placed_cells rank place ks)
run_up_to rank place end [] le = tt
run_up_to rank place end (k ∷ ks) le = (inl (inr (refl, omega (arith, le))), run_up_to rank (place + 1) end ks (omega (arith, le)))

later_up_to : (rank place end : ℕ) (es : List Entry) → place ≤ end → AllBefore (rank, place) es → AllUpTo (Some (rank, end)) es
later_up_to rank place end [] le a = tt
later_up_to rank place end (e ∷ es) le a = (inl (elim a.0 [ inl lt ↦ inl lt | inr is ↦ inr (is.0, omega (arith, is.1, le)) ]), later_up_to rank place end es le a.1)

pub run_behind_all : (rank place : ℕ) (ks : List Known) (es : List Entry) → AllBefore (rank, place) es → AllUpTo (Some (rank, place + length ks)) (es ++ placed_cells rank place ks)
run_behind_all rank place ks es a = up_to_both (rank, place + length ks) es (placed_cells rank place ks) (later_up_to rank place (place + length ks) es (omega arith) a) (run_up_to rank place (place + length ks) ks (omega arith))
