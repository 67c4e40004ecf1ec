-- Whether something is known of ranks below a number alone, told by the last cell.
use Rattle.std.proofs.Common.{◌≡◌, ◌↔◌, ℕ, ◌+◌, ◌<◌, ◌≤◌, Option, Some, List, map, length, get_or, refl, sym, ◌∙◌, ap, subst, arith, ⊎_elim, IsSome}
use Rattle.std.specs.Prelude.{Contains}
use Rattle.std.specs.List.{slice_get}
use Rattle.std.specs.List.Sorted.{IsStrictlySortedBy}
use Rattle.std.specs.declared.cmp.Ordering.TheVariants.{Less}
use Rattle.std.proofs.lemmas.Bool.{cases_order}
use Rattle.std.proofs.lemmas.Bool.Decides.{nat_tests}
use Rattle.std.proofs.lemmas.List.{get_or-map, length-map}
use Rattle.std.proofs.lemmas.Map.Keys.{Less-from_sorted}
use Rattle.std.proofs.lemmas.Option.{slice_get_within, get_or_from_slice_get}
use Rattle.trace_know.specs.declared.cell.Known.{Known}
use Rattle.trace_know.specs.Listing.{cells_of}
use Rattle.trace_know.specs.View.{View, place_cmp, cell}
use Rattle.trace_wire.specs.Packed.{HasOther, IsOfRanks}

rank_le : (a b : ℕ × ℕ) → place_cmp a b ≡ Less → a.0 ≤ b.0
rank_le a b h = grind (arith, nat_tests)

-- the ranks and places of the cells
abbrev pub keys : View → List (ℕ × ℕ)
keys view = map (λ at. at.0) (cells_of view)

-- the laws of a view's cells one after another
abbrev pub ListsCells : View → Type 0
ListsCells view = (rank place : ℕ) (known : Option Known) → Contains (cells_of view) ((rank, place), known) ↔ ((cell view rank place ≡ known) × IsSome known)

module _ (ranks : ℕ) (view : View) (lists : ListsCells view) where
  -- a cell of another rank
  pub other_last : (i rank place : ℕ) (known : Option Known) → slice_get (cells_of view) i ≡ Some ((rank, place), known) → ranks ≤ rank → HasOther ranks view
  other_last i rank place known e le =
      let lt = slice_get_within (cells_of view) i ((rank, place), known) e in
      let at = get_or_from_slice_get (cells_of view) i ((rank, place), known) ((rank, place), known) e in
      let both = (lists rank place known).0 (i, lt, at) in
      (rank, place, le, subst (λ (k : Option Known). IsSome k) (sym both.0) both.1)

  -- where no cell stands, nothing is known of anyone
  pub nobody : length (cells_of view) ≡ 0 → IsOfRanks ranks view
  nobody none r p some = let c = (lists r p (cell view r p)).1 (refl, some) in absurd (omega (arith, none, c.1))

module _ (ranks : ℕ) (view : View) (lists : ListsCells view) (rises : IsStrictlySortedBy place_cmp (keys view)) where
  key_at : (k : ℕ) (x : (ℕ × ℕ) × Option Known) → k < length (cells_of view) → get_or (cells_of view) k x ≡ x → get_or (keys view) k (0, 0) ≡ x.0
  key_at k x lt e = get_or-map (λ at. at.0) (cells_of view) k x (0, 0) lt ∙ ap (λ (y : (ℕ × ℕ) × Option Known). y.0) e

  -- no rank stands behind that of the last cell
  upto_last : (i rank place : ℕ) (known : Option Known) → i + 1 ≡ length (cells_of view) → slice_get (cells_of view) i ≡ Some ((rank, place), known) →
      (r p : ℕ) → IsSome (cell view r p) → r ≤ rank
  upto_last i rank place known last e r p some =
      let c = (lists r p (cell view r p)).1 (refl, some) in
      let lt = slice_get_within (cells_of view) i ((rank, place), known) e in
      let here : get_or (keys view) c.0 (0, 0) ≡ (r, p) = key_at c.0 ((r, p), cell view r p) c.1 c.2 in
      let there : get_or (keys view) i (0, 0) ≡ (rank, place) = key_at i ((rank, place), known) lt (get_or_from_slice_get (cells_of view) i ((rank, place), known) ((rank, place), known) e) in
      let wide : length (keys view) ≡ length (cells_of view) = length-map (cells_of view) (λ at. at.0) in
      ⊎_elim
      (λ (same : c.0 ≡ i). let q : (r, p) ≡ (rank, place) = sym here ∙ ap (λ (k : ℕ). get_or (keys view) k (0, 0)) same ∙ there in
      let e0 : r ≡ rank = ap (λ (x : ℕ × ℕ). x.0) q in omega (arith, e0))
      (⊎_elim
      (λ (below : c.0 < i). let less = Less-from_sorted place_cmp (keys view) c.0 i (0, 0) rises below (omega (arith, wide, lt)) in
      let le = rank_le (get_or (keys view) c.0 (0, 0)) (get_or (keys view) i (0, 0)) less in
      subst (λ (x : ℕ × ℕ). x.0 ≤ rank) here (subst (λ (x : ℕ × ℕ). (get_or (keys view) c.0 (0, 0)).0 ≤ x.0) there le))
      (λ (above : i < c.0). absurd (omega (arith, above, last, c.1))))
      (cases_order c.0 i)

  -- the last cell's rank is below the number, and so are all
  pub of_last : (i rank place : ℕ) (known : Option Known) → i + 1 ≡ length (cells_of view) → slice_get (cells_of view) i ≡ Some ((rank, place), known) → rank < ranks → IsOfRanks ranks view
  of_last i rank place known last e lt r p some = let le = upto_last i rank place known last e r p some in omega (arith, le, lt)
