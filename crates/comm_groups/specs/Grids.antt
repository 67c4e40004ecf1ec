-- Grids of ranks (MPI 4.0, 8.5).
use Rattle.std.specs.Prelude.{◌≡◌, ◌↔◌, length, ℕ, ◌+◌, ◌*◌, ◌/◌, ◌%◌, ◌==◌, ◌&&◌, ◌||◌, Bool, true, false, List, [], ◌∷◌, Option, Some, None, cond, map, nat_lt, nat_le, pos, if◌then◌else◌}
use Rattle.std.specs.List.{list_all, range_with_len}
use Rattle.comm_groups.specs.declared.color.Colored.{Colored}
use Rattle.comm_groups.specs.Splits.{Group, IsSplit}

-- how many ranks a grid of these dimensions has
abbrev pub grid_size : List ℕ → ℕ
grid_size [] = 1
grid_size (d ∷ dims) = d * grid_size dims

-- no dimension is empty
abbrev pub are_sizes : List ℕ → Bool
are_sizes dims = list_all (λ d. nat_lt 0 d) dims

-- the same where each dimension has a size, and the grid no more ranks than the limit
abbrev pub size_within : ℕ → List ℕ → Option ℕ
size_within limit dims = if are_sizes dims && nat_le (grid_size dims) limit then Some (grid_size dims) else None

-- The coordinates of a rank: ranks are in row-major order, so that the last coordinate runs fastest.
abbrev pub coords_of : List ℕ → ℕ → List ℕ
coords_of [] r = []
coords_of (d ∷ dims) r = r / grid_size dims ∷ coords_of dims (r % grid_size dims)

-- The coordinates agree in the dimensions that do not remain.
abbrev pub agree : List Bool → List ℕ → List ℕ → Bool
agree [] xs ys = true
agree (keep ∷ remain) [] ys = true
agree (keep ∷ remain) (x ∷ xs) [] = true
agree (keep ∷ remain) (x ∷ xs) (y ∷ ys) = (keep || (x == y)) && agree remain xs ys

-- the first rank that agrees so with a rank: it has 0 for each coordinate in a dimension that remains
abbrev pub first_alike : List ℕ → List Bool → ℕ → ℕ
first_alike [] remain r = 0
first_alike (d ∷ dims) [] r = 0
first_alike (d ∷ dims) (keep ∷ remain) r = cond keep 0 (r / grid_size dims * grid_size dims) + first_alike dims remain (r % grid_size dims)

-- what stands where the dimension remains
abbrev pub kept : List Bool → List ℕ → List ℕ
kept [] xs = []
kept (keep ∷ remain) [] = []
kept (keep ∷ remain) (x ∷ xs) = cond keep (x ∷ kept remain xs) (kept remain xs)

-- a rank of the grid, by the first that agrees with it
abbrev pub placed : List ℕ → List Bool → ℕ → Colored
placed dims remain r = record { color = first_alike dims remain r; key = pos 0; rank = r }

-- The parts of a grid: the ranks that agree, in row-major order.
abbrev pub AreParts : List ℕ → List Bool → List Group → Type 0
AreParts dims remain groups = IsSplit (map (placed dims remain) (range_with_len 0 (grid_size dims))) groups

-- Two ranks of a grid are in one part exactly if their coordinates agree in the dimensions that do not remain.
abbrev pub PartsAgree : Type 0
PartsAgree = (dims : List ℕ) (remain : List Bool) (r q : ℕ) → length remain ≡ length dims → are_sizes dims ≡ true
    → (agree remain (coords_of dims r) (coords_of dims q) ≡ true) ↔ (first_alike dims remain r ≡ first_alike dims remain q)
