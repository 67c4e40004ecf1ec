-- The readable prefix, and what is beyond it.
use Rattle.std.proofs.Common.{◌≡◌, ℕ, zero, suc, ◌<◌, ◌≤◌, ◌-◌, false, cond, Option, Some, None, List, refl, sym, ap, subst, ◌∙◌, ◌⊎◌, inl, inr, arith}
use Rattle.std.specs.Prelude.{IsSome}
use Rattle.std.specs.Ordering.{eq_by_cmp}
use Rattle.std.proofs.lemmas.Bool.{cases_lt}
use Rattle.std.specs.FinMap.{get, remove, len, empty_of_len, get-empty, get-remove, len-remove}
use Rattle.mpi_model.specs.declared.event.Event.{Event}
use Rattle.trace_know.specs.declared.cell.Known.{Known}
use Rattle.trace_know.specs.View.{View, place_cmp, cell}
use Rattle.trace_know.specs.Prefix.{IsLeading, readable_of, readable_at, AllReadableBelow, IsPrefix, events_of, prefix_of}
use Rattle.trace_know.proofs.SameEvents.{false_or_true}
use Rattle.trace_know.proofs.Joins.{places_total, exact_places, equal}
use Rattle.trace_know.proofs.Leading.{leading-IsLeading, one_leading, some_within, greatest_leading, length_of_leading}

-- something is known of each place below this one
abbrev AllKnownBelow : View → ℕ → ℕ → Type 0
AllKnownBelow view rank end = (place : ℕ) → place < end → IsSome (cell view rank place)

some_key : (view : View) (q : ℕ × ℕ) → IsSome (get view q) → 0 < len view
some_key view q some = elim (zero_or_more (len view)) [
  | inl none ↦ let e : get view q ≡ None = ap (λ v. get v q) (empty_of_len view none) ∙ get-empty place_cmp q in absurd (no_some (get view q) e some)
  | inr more ↦ more
]
  where
    zero_or_more : (n : ℕ) → (n ≡ 0) ⊎ (0 < n)
    zero_or_more zero = inl refl
    zero_or_more (suc n) = inr (omega arith)

    no_some : (o : Option Known) → o ≡ None → IsSome o → ⊥
    no_some None e h = absurd cc
    no_some (Some k) e h = absurd cc

apart : (r p q : ℕ) → p < q → eq_by_cmp place_cmp (r, p) (r, q) ≡ false
apart r p q l = elim (false_or_true (eq_by_cmp place_cmp (r, p) (r, q))) [
  | inl t ↦ let e : ◌≡◌ {A = ℕ × ℕ} (r, p) (r, q) = exact_places (r, p) (r, q) (equal _ t) in let same : p ≡ q = ap (λ (x : ℕ × ℕ). x.1) e in absurd (omega arith)
  | inr f ↦ f
]

-- There are no more places in a row than cells.
covered : (n : ℕ) (view : View) (rank : ℕ) → AllKnownBelow view rank n → n ≤ len view
covered zero view rank h = omega arith
covered (suc n) view rank h =
    let more : 0 < len view = some_key view (rank, n) (h n (omega arith)) in
    let less : len (remove view (rank, n)) ≡ len view - 1 = len-remove places_total view (rank, n) ∙ ap (λ b. cond b (len view - 1) (len view)) (h n (omega arith)) in
    let rest : n ≤ len (remove view (rank, n)) = covered n (remove view (rank, n)) rank (λ p l. subst IsSome (sym (get-remove places_total view (rank, n) (rank, p) ∙ ap (λ b. cond b None (get view (rank, p))) (apart rank p n l))) (h p (omega arith))) in
    omega arith

known_of_readable : (c : Option Known) → IsSome (readable_of c) → IsSome c
known_of_readable None h = absurd cc
known_of_readable (Some k) h = refl

none_at : (view : View) (rank : ℕ) → AllReadableBelow view rank (len view) → readable_at view rank (len view) ≡ None
none_at view rank all = by_cell (readable_at view rank (len view)) (λ some. absurd (past (covered (suc (len view)) view rank (λ p l. known_of_readable (cell view rank p) (upto p l some)))))
  where
    by_cell : (o : Option Event) → (IsSome o → ⊥) → o ≡ None
    by_cell None f = refl
    by_cell (Some e) f = absurd (f refl)

    past : suc (len view) ≤ len view → ⊥
    past l = absurd (omega arith)

    upto : (p : ℕ) → p < suc (len view) → IsSome (readable_at view rank (len view)) → IsSome (readable_at view rank p)
    upto p l some = elim (cases_lt p (len view)) [
      | inl lt ↦ all p lt
      | inr le ↦ let e : p ≡ len view = omega arith in subst (λ x. IsSome (readable_at view rank x)) (sym e) some
    ]

pub events_of-IsLeading : (view : View) (rank : ℕ) → IsLeading (readable_at view rank) (events_of view rank)
events_of-IsLeading view rank = leading-IsLeading (len view) (readable_at view rank) (none_at view rank)

-- ---- the prefix

pub prefix_of-IsPrefix : (view : View) (rank : ℕ) → IsPrefix view rank (prefix_of view rank)
prefix_of-IsPrefix view rank = record {
  all_readable = some_within (readable_at view rank) (events_of view rank) (events_of-IsLeading view rank);
  greatest = greatest_leading (readable_at view rank) (events_of view rank) (events_of-IsLeading view rank);
}

pub prefix_is : (view : View) (rank n : ℕ) → AllReadableBelow view rank n → readable_at view rank n ≡ None → n ≡ prefix_of view rank
prefix_is view rank n all none = length_of_leading (readable_at view rank) (events_of view rank) (events_of-IsLeading view rank) n all none

pub events_are : (view : View) (rank : ℕ) (xs : List Event) → IsLeading (readable_at view rank) xs → xs ≡ events_of view rank
events_are view rank xs h = one_leading (readable_at view rank) xs (events_of view rank) h (events_of-IsLeading view rank)
