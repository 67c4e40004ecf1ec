-- Groups: ordered sets of ranks (MPI 4.0, 7.2.1), and how one is made of others (MPI 4.0, 7.3.2).
use Rattle.std.specs.Prelude.{ℕ, ◌==◌, ◌&&◌, ◌||◌, ◌++◌, Bool, true, false, not, List, [], ◌∷◌, Option, Some, None, filter, length, nat_lt, slice_get, if◌then◌else◌}
use Rattle.std.specs.List.{list_all, list_any, filter_map, range_with_len}

-- the list has the rank
abbrev pub has : List ℕ → ℕ → Bool
has ranks r = list_any (λ x. x == r) ranks

-- some rank stands in the list twice
abbrev pub has_double : List ℕ → Bool
has_double [] = false
has_double (r ∷ ranks) = has ranks r || has_double ranks

-- The union: the first group, and then the members of the second that the first lacks, in the second's order.
abbrev pub union_of : List ℕ → List ℕ → List ℕ
union_of first second = first ++ filter (λ r. not (has first r)) second

-- The intersection: the members of the first that the second has, in the first's order.
abbrev pub intersection_of : List ℕ → List ℕ → List ℕ
intersection_of first second = filter (λ r. has second r) first

-- The difference: the members of the first that the second lacks, in the first's order.
abbrev pub difference_of : List ℕ → List ℕ → List ℕ
difference_of first second = filter (λ r. not (has second r)) first

-- what a call may name: ranks in a group of this size, each once
abbrev pub are_ranks : ℕ → List ℕ → Bool
are_ranks size ranks = list_all (λ r. nat_lt r size) ranks && not (has_double ranks)

-- the members with these ranks in the group
abbrev pub members_at : List ℕ → List ℕ → List ℕ
members_at group ranks = filter_map (λ r. slice_get group r) ranks

-- Only the members with these ranks, in the order of the ranks.
abbrev pub incl_of : List ℕ → List ℕ → Option (List ℕ)
incl_of group ranks = if are_ranks (length group) ranks then Some (members_at group ranks) else None

-- the ranks in a group of this size that the list lacks
abbrev pub ranks_without : ℕ → List ℕ → List ℕ
ranks_without size ranks = filter (λ r. not (has ranks r)) (range_with_len 0 size)

-- All members but those with these ranks, in the group's order.
abbrev pub excl_of : List ℕ → List ℕ → Option (List ℕ)
excl_of group ranks = if are_ranks (length group) ranks then Some (members_at group (ranks_without (length group) ranks)) else None
