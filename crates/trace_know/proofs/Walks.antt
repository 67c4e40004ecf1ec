-- A walk over the cells of runs, one step at a time.
use Rattle.std.proofs.Common.{◌≡◌, ℕ, ◌+◌, ◌<◌, ◌≤◌, suc, zero, Some, List, [], ◌∷◌, ◌++◌, length, drop, get_or, refl, sym, ap, subst, ◌∙◌, arith}
use Rattle.std.specs.List.{slice_get}
use Rattle.trace_know.specs.declared.cell.Known.{Known}
use Rattle.trace_know.specs.declared.run.Run.{Run}
use Rattle.trace_know.specs.Runs.{placed_cells, listed, end_of, Above, IsWalk}
use Rattle.trace_know.proofs.Listing.{placed-at}

abbrev Entries : Type 0
Entries = List ((ℕ × ℕ) × Known)

drop-next : {X : Type 0} (xs : List X) (n : ℕ) → drop (n + 1) xs ≡ drop 1 (drop n xs)
drop-next xs n = let next : n + 1 ≡ suc n = omega arith in ap (λ (m : ℕ). drop m xs) next ∙ more xs n
  where
    more : {X : Type 0} (xs : List X) (n : ℕ) → drop (suc n) xs ≡ drop 1 (drop n xs)
    more [] zero = refl
    more [] (suc n) = refl
    more (x ∷ xs) zero = refl
    more (x ∷ xs) (suc n) = more xs n

get-drop : {X : Type 0} (xs : List X) (n : ℕ) → slice_get (drop n xs) 0 ≡ slice_get xs n
get-drop [] zero = refl
get-drop [] (suc n) = refl
get-drop (x ∷ xs) zero = refl
get-drop (x ∷ xs) (suc n) = get-drop xs n

drop-placed : (rank place : ℕ) (ks : List Known) (rest : Entries) (n : ℕ) → n ≡ length ks → drop n (placed_cells rank place ks ++ rest) ≡ rest
drop-placed rank place [] rest zero h = refl
drop-placed rank place [] rest (suc n) h = absurd (omega arith)
drop-placed rank place (k ∷ ks) rest zero h = absurd (omega arith)
drop-placed rank place (k ∷ ks) rest (suc n) h = drop-placed rank (place + 1) ks rest n (omega arith)

first-left : (xs : Entries) (x : (ℕ × ℕ) × Known) → Some x ≡ slice_get xs 0 → xs ≡ x ∷ drop 1 xs
first-left [] x h = absurd cc
first-left (y ∷ ys) x h = let same : y ≡ x = cc in λ i. same i ∷ ys

-- the next cell, and those after it
pub walk-left : (runs : List Run) (run : Run) (rest : List Run) (at : ℕ) (d : Known) → runs ≡ run ∷ rest → at < length run.cells.items
    → drop at (listed runs) ≡ ((run.rank, run.first + at), get_or run.cells.items at d) ∷ drop (at + 1) (listed runs)
walk-left runs run rest at d is h =
    let cell : (ℕ × ℕ) × Known = ((run.rank, run.first + at), get_or run.cells.items at d) in
    let here : slice_get (drop at (listed runs)) 0 ≡ Some cell = get-drop (listed runs) at ∙ ap (λ (rs : List Run). slice_get (listed rs) at) is ∙ placed-at run.rank run.first at run.cells.items (listed rest) d h in
    first-left (drop at (listed runs)) cell (sym here) ∙ ap (λ (es : Entries). cell ∷ es) (sym (drop-next (listed runs) at))

-- past a run's last cell come those of the next run
pub walk-turned : (runs : List Run) (run : Run) (rest : List Run) (at : ℕ) → runs ≡ run ∷ rest → at + 1 ≡ length run.cells.items → drop (at + 1) (listed runs) ≡ listed rest
walk-turned runs run rest at is h = ap (λ (rs : List Run). drop (at + 1) (listed rs)) is ∙ drop-placed run.rank run.first run.cells.items (listed rest) (at + 1) h

-- the same cell, its parts read one by one
pub read_apart : (rank rank' first first' at : ℕ) (k k' : Known) (es : Entries) → rank' ≡ rank → first' ≡ first → k' ≡ k → ((rank, first + at), k) ∷ es ≡ ((rank', first' + at), k') ∷ es
read_apart rank rank' first first' at k k' es r f e = λ i. ((sym r i, sym f i + at), sym e i) ∷ es

pub within_first : (runs : List Run) (run : Run) (rest : List Run) (at : ℕ) → runs ≡ run ∷ rest → IsWalk at runs → at < length run.cells.items
within_first runs run rest at is h = (subst (λ (rs : List Run). IsWalk at rs) is h).0

pub shorter : (xs ys : Entries) (x : (ℕ × ℕ) × Known) → xs ≡ x ∷ ys → length ys < length xs
shorter xs ys x h = let size : length xs ≡ length (x ∷ ys) = ap length h in omega arith

-- past the last run no cell is left
pub walk-ended : (runs : List Run) (index at : ℕ) → length runs ≤ index → IsWalk at (drop index runs) → drop at (listed (drop index runs)) ≡ []
walk-ended [] zero at h walk = let none : Entries = [] in ap (λ (n : ℕ). drop n none) walk
walk-ended [] (suc index) at h walk = let none : Entries = [] in ap (λ (n : ℕ). drop n none) walk
walk-ended (r ∷ runs) zero at h walk = absurd (omega arith)
walk-ended (r ∷ runs) (suc index) at h walk = walk-ended runs index at (omega arith) walk

-- a walk in its run
pub walk-inside : (runs : List Run) (run : Run) (rest : List Run) (at : ℕ) → runs ≡ run ∷ rest → IsWalk at runs → at + 1 < length run.cells.items → IsWalk (at + 1) runs
walk-inside runs run rest at is walk h =
    let here = subst (λ (rs : List Run). IsWalk at rs) is walk in
    subst (λ (rs : List Run). IsWalk (at + 1) rs) (sym is) (h, here.1)

-- before the first cell of the next run
pub walk-next : (runs : List Run) (run : Run) (rest : List Run) (at : ℕ) → runs ≡ run ∷ rest → IsWalk at runs → IsWalk 0 rest
walk-next runs run rest at is walk =
    let here = subst (λ (rs : List Run). IsWalk at rs) is walk in
    begun (end_of run) rest here.1.1.2
  where
    begun : (low : ℕ) (rs : List Run) → Above low rs → IsWalk 0 rs
    begun low [] a = refl
    begun low (r ∷ rs) a = (a.1.some, (low, a))
