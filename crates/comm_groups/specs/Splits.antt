-- Splitting a communicator (MPI 4.0, 7.4.2).
use Rattle.std.specs.Prelude.{◌≡◌, ◌<◌, ℕ, List, All, length, map, IsPermutation, IsSorted}
use Rattle.std.specs.List.{flat_map}
use Rattle.std.specs.List.Sorted.{IsStrictlyIncreasing}
use Rattle.std.specs.declared.cmp.Ordering.{Ordering}
use Rattle.std.specs.Ordering.{int_cmp, nat_cmp, ordering_then}
use Rattle.comm_groups.specs.declared.color.Colored.{Colored}

-- the ranks of one color, in their order
pub record Group : Type 0 where
  pub color : ℕ
  pub ranks : List ℕ

-- Of two ranks, the order of their colors, then of their keys, then that in the parent.
abbrev pub split_cmp : Colored → Colored → Ordering
split_cmp x y = ordering_then (nat_cmp x.color y.color) (ordering_then (int_cmp x.key y.key) (nat_cmp x.rank y.rank))

-- the ranks of a group, each with its color
abbrev pub colored : Group → List (ℕ × ℕ)
colored g = map (λ r. (g.color, r)) g.ranks

-- One group for each color that is named: put one behind the other, the groups have all ranks that name a color, in
-- order.
pub record IsSplit (asked : List Colored) (groups : List Group) : Type 0 where
  pub order : List Colored
  pub same : IsPermutation asked order
  pub sorted : IsSorted split_cmp order
  pub all : flat_map colored groups ≡ map (λ e. (e.color, e.rank)) order
  pub some : All (λ g. 0 < length g.ranks) groups
  pub rising : IsStrictlyIncreasing (map (λ g. g.color) groups)
