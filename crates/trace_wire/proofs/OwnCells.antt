-- The cells of every knowledge are those of a frame.
use Rattle.std.proofs.Common.{◌≡◌, ℕ, suc, true, Some, None, List, [], ◌∷◌, map, refl, arith}
use Rattle.std.specs.Prelude.{Contains}
use Rattle.std.specs.List.{AllByRecursion}
use Rattle.std.specs.List.Sorted.{IsStrictlySortedBy}
use Rattle.std.specs.declared.cmp.Ordering.TheVariants.{Less}
use Rattle.std.proofs.lemmas.Bool.Decides.{nat_tests}
use Rattle.trace_know.specs.declared.cell.Known.{Known}
use Rattle.trace_know.specs.Listing.{as_shown}
use Rattle.trace_know.specs.Placed.{IsPlaced}
use Rattle.trace_know.specs.View.{place_cmp}
use Rattle.trace_wire.specs.Cells.{Entry, AreCells, AreInRange, is_past}

less_past : (a b : ℕ × ℕ) → place_cmp a b ≡ Less → is_past (Some a) b ≡ true
less_past a b h = grind (arith, nat_tests, h)

-- every entry stands where it can stand
abbrev pub AllPlaced : List Entry → Type 0
AllPlaced es = (rank place : ℕ) (known : Known) → Contains (map as_shown es) ((rank, place), Some known) → IsPlaced rank place known

first_placed : (e : Entry) (es : List Entry) → AllPlaced (e ∷ es) → IsPlaced e.0.0 e.0.1 e.1
first_placed e es all = all e.0.0 e.0.1 e.1 (0, omega arith, refl)

rest_placed : (e : Entry) (es : List Entry) → AllPlaced (e ∷ es) → AllPlaced es
rest_placed e es all rank place known is = all rank place known (suc is.0, omega (arith, is.1), is.2)

cells_past : (before : ℕ × ℕ) (es : List Entry) → AllByRecursion (λ y. place_cmp before y ≡ Less) (map (λ at. at.0) (map as_shown es)) → IsStrictlySortedBy place_cmp (map (λ at. at.0) (map as_shown es)) → AllPlaced es → AreInRange es → AreCells (Some before) es
unfolding IsStrictlySortedBy
cells_past before [] past sorted placed range = tt
cells_past before (e ∷ es) past sorted placed range = (less_past before e.0 past.0, (first_placed e es placed, range.0), cells_past e.0 es sorted.0 sorted.1 (rest_placed e es placed) range.1)

pub own_cells : (es : List Entry) → IsStrictlySortedBy place_cmp (map (λ at. at.0) (map as_shown es)) → AllPlaced es → AreInRange es → AreCells None es
unfolding IsStrictlySortedBy
own_cells [] sorted placed range = tt
own_cells (e ∷ es) sorted placed range = (refl, (first_placed e es placed, range.0), cells_past e.0 es sorted.0 sorted.1 (rest_placed e es placed) range.1)
