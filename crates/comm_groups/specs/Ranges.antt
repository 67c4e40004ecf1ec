-- Ranges of ranks (MPI 4.0, 7.3.2).
use Rattle.std.specs.Prelude.{ℕ, ◌+◌, ◌-◌, ◌*◌, ◌/◌, ◌&&◌, Bool, List, Option, None, map, nat_le, nat_lt, if◌then◌else◌}
use Rattle.std.specs.List.{flat_map, list_all, range_with_len}
use Rattle.comm_groups.specs.declared.range.RankRange.{RankRange}
use Rattle.comm_groups.specs.Groups.{are_ranks, excl_of, incl_of}

-- A range has a stride, and its last rank is not behind its first.
abbrev pub is_range : RankRange → Bool
is_range r = nat_lt 0 r.stride && (if r.falls then nat_le r.last r.first else nat_le r.first r.last)

-- how far it goes
abbrev pub span_of : RankRange → ℕ
span_of r = if r.falls then r.first - r.last else r.last - r.first

-- its k-th rank, from 0: k strides from the first
abbrev pub rank_of : RankRange → ℕ → ℕ
rank_of r k = if r.falls then r.first - k * r.stride else r.first + k * r.stride

-- how many ranks a range names
abbrev pub count_of : RankRange → ℕ
count_of r = span_of r / r.stride + 1

-- its ranks: as many strides as its span has
abbrev pub ranks_of : RankRange → List ℕ
ranks_of r = map (rank_of r) (range_with_len 0 (count_of r))

-- All of them are ranges.
abbrev pub are_ranges : List RankRange → Bool
are_ranges ranges = list_all is_range ranges

-- They are ranges, and of their ranks, one range after the other, each is one of a group of so many and named once.
abbrev pub are_within : ℕ → List RankRange → Bool
are_within size ranges = are_ranges ranges && are_ranks size (flat_map ranks_of ranges)

-- The members with the ranks of the ranges, one range after the other.
abbrev pub range_incl_of : List ℕ → List RankRange → Option (List ℕ)
range_incl_of group ranges = if are_ranges ranges then incl_of group (flat_map ranks_of ranges) else None

-- All members but those.
abbrev pub range_excl_of : List ℕ → List RankRange → Option (List ℕ)
range_excl_of group ranges = if are_ranges ranges then excl_of group (flat_map ranks_of ranges) else None
