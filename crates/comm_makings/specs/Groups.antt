-- The groups that a rank's calls give (MPI 4.0, 7.3.2), as far as the communicators are derived.
use Rattle.std.specs.Prelude.{◌≡◌, ◌+◌, ◌-◌, ◌%◌, ◌==◌, ℕ, ℤ, suc, pos, negsuc, nat_abs, nat_le, Bool, true, false, not, List, [], ◌∷◌, Option, Some, None, cond, drop, length, take}
use Rattle.std.specs.List.{slice_get}
use Rattle.std.specs.Option.{option_and_then, option_map}
use Rattle.comm_groups.specs.Groups.{difference_of, excl_of, incl_of, intersection_of, union_of}
use Rattle.comm_groups.specs.Ranges.{range_excl_of, range_incl_of}
use Rattle.comm_groups.specs.declared.range.RankRange.{RankRange as Ranks}
use Rattle.comm_makings.specs.declared.calls.GroupCall.{GroupCall}
use Rattle.comm_makings.specs.declared.calls.GroupCall.TheVariants as calls
use Rattle.comm_makings.specs.declared.calls.RankRange.{RankRange}
use Rattle.comm_makings.specs.declared.group_value.GroupValue.{GroupValue}
use Rattle.comm_makings.specs.declared.group_value.GroupValue.TheVariants as values
use Rattle.comm_makings.specs.declared.handle.GroupAt.{GroupAt}
use Rattle.comm_makings.specs.declared.handle.GroupAt.TheVariants as groups
use Rattle.comm_makings.specs.declared.handle.Meant.{Meant}
use Rattle.comm_makings.specs.declared.state.Made.{Made}
use Rattle.comm_makings.specs.declared.state.HandleState.{HandleState}
use Rattle.comm_makings.specs.declared.state.HandleState.TheVariants as standings

-- the ranks of a group, where they are known
abbrev pub ranks_of : List Made → GroupValue → Option (List ℕ)
ranks_of comms values.Waits = None
ranks_of comms values.Unknown = None
ranks_of comms (values.Whole place) = option_map (λ c. c.ranks.items) (slice_get comms place)
ranks_of comms (values.Listed ranks) = Some ranks.items

-- they may become known
abbrev pub waits : GroupValue → Bool
waits values.Waits = true
waits _ = false

-- the same, where there is such a group
abbrev pub waits_some : Option GroupValue → Bool
waits_some None = false
waits_some (Some value) = waits value

-- the ranks of a group that a call names
abbrev pub ranks_at : List Made → List GroupValue → GroupAt → Option (List ℕ)
ranks_at comms values groups.Empty = Some []
ranks_at comms values groups.Unknown = None
ranks_at comms values (groups.Given call) = option_and_then (ranks_of comms) (slice_get values call)

-- The ranks of a group that a call names may become known.
abbrev pub waits_at : List GroupValue → GroupAt → Bool
waits_at values groups.Empty = false
waits_at values groups.Unknown = false
waits_at values (groups.Given call) = waits_some (slice_get values call)

-- a group whose ranks are not known: they may become so, or not
abbrev pub unlisted : Bool → GroupValue
unlisted waits = cond waits values.Waits values.Unknown

-- the group of these ranks, where there is one
abbrev pub IsListed : Option (List ℕ) → GroupValue → Type 0
IsListed None value = value ≡ values.Unknown
IsListed (Some ranks) (values.Listed list) = list.items ≡ ranks
IsListed (Some ranks) _ = ⊥

-- the ranks of one group of an intercommunicator, the second or the first
abbrev pub side_ranks : Bool → Made → List ℕ
side_ranks second inter = cond second (drop (length inter.ranks.items - inter.remote_size) inter.ranks.items) (take (length inter.ranks.items - inter.remote_size) inter.ranks.items)

-- the same of the intercommunicator at a place
abbrev pub group_of_side : List Made → ℕ → Bool → Option (List ℕ)
group_of_side inters place second = option_map (side_ranks second) (slice_get inters place)

-- the group of a rank in the second group or in the first, or the other one
abbrev pub side_asked : Bool → Bool → Bool
side_asked remote second = cond remote (not second) second

-- The group of a communicator, by how its handle stands, or the remote group of an intercommunicator, which no other
-- communicator has (MPI 4.0, 7.6).
abbrev pub IsGroupOf : List Made → Bool → Option HandleState → GroupValue → Type 0
IsGroupOf inters remote None value = value ≡ values.Unknown
IsGroupOf inters remote (Some standings.Open) value = value ≡ values.Waits
IsGroupOf inters remote (Some (standings.Derived place)) value = value ≡ cond remote values.Unknown (values.Whole place)
IsGroupOf inters remote (Some (standings.Inter place second)) value = IsListed (group_of_side inters place (side_asked remote second)) value
IsGroupOf inters remote (Some (standings.Left why)) value = value ≡ values.Unknown

-- A rank that isn't below 0.
abbrev pub rank_in : ℤ → Option ℕ
rank_in (pos rank) = Some rank
rank_in (negsuc n) = None

-- The last rank of a range that falls from the first to one so far below 0; none where that is below 0.
abbrev pub last_from : ℕ → ℕ → ℕ → Option ℕ
last_from first below stride =
    cond (stride == 0) None (cond (nat_le ((first + below) - (first + below) % stride) first) (Some (first - ((first + below) - (first + below) % stride))) None)

-- A number is below 0: a range with such a stride falls.
abbrev pub is_below_zero : ℤ → Bool
is_below_zero (pos n) = false
is_below_zero (negsuc n) = true

-- The last rank of a range: the one that it says, or where a falling range says one below 0, its last that isn't.
abbrev pub last_of : ℕ → ℤ → ℕ → Bool → Option ℕ
last_of first (pos last) stride falls = Some last
last_of first (negsuc n) stride falls = cond falls (last_from first (suc n) stride) None

-- a range by its first and its last rank, with the size of its stride and whether it falls
abbrev pub with_last : ℕ → ℤ → ℕ → Ranks
with_last first stride last = record { first = first; last = last; stride = nat_abs stride; falls = is_below_zero stride }

-- the range from this first rank on, where it has a last one
abbrev pub with_first : RankRange → ℕ → Option Ranks
with_first range first = option_map (with_last first range.stride) (last_of first range.last (nat_abs range.stride) (is_below_zero range.stride))

-- the range by ranks that aren't below 0
abbrev pub range_of : RankRange → Option Ranks
range_of range = option_and_then (with_first range) (rank_in range.first)

-- the ranges, where all are
abbrev pub ranges_of : List RankRange → Option (List Ranks)
ranges_of [] = Some []
ranges_of (range ∷ ranges) = option_and_then (λ r. option_map (λ rs. r ∷ rs) (ranges_of ranges)) (range_of range)

-- a group that is made of one other
abbrev pub made_of_one : GroupCall → List ℕ → Option (List ℕ)
made_of_one (calls.Incl group ranks) members = option_and_then (λ r. incl_of members r.items) ranks
made_of_one (calls.Excl group ranks) members = option_and_then (λ r. excl_of members r.items) ranks
made_of_one (calls.RangeIncl group ranges) members = option_and_then (λ r. option_and_then (range_incl_of members) (ranges_of r.items)) ranges
made_of_one (calls.RangeExcl group ranges) members = option_and_then (λ r. option_and_then (range_excl_of members) (ranges_of r.items)) ranges
made_of_one _ members = None

-- a group that is made of two others
abbrev pub made_of_two : GroupCall → List ℕ → List ℕ → Option (List ℕ)
made_of_two (calls.Union a b) first second = Some (union_of first second)
made_of_two (calls.Intersection a b) first second = Some (intersection_of first second)
made_of_two (calls.Difference a b) first second = Some (difference_of first second)
made_of_two _ first second = None

-- The ranks of a group are known, or they may become so.
abbrev pub is_known : Option (List ℕ) → Bool → Bool
is_known None waits = waits
is_known (Some ranks) waits = true

-- the group that a call makes of two others, by their ranks, where those of both are known
abbrev pub IsMadeOfTwo : GroupCall → Option (List ℕ) → Option (List ℕ) → Bool → GroupValue → Type 0
IsMadeOfTwo call None second waits value = value ≡ unlisted waits
IsMadeOfTwo call (Some first) None waits value = value ≡ unlisted waits
IsMadeOfTwo call (Some first) (Some second) waits value = IsListed (made_of_two call first second) value

-- the group that a call makes of one other, by its ranks, where they are known
abbrev pub IsMadeOfOne : GroupCall → Option (List ℕ) → Bool → GroupValue → Type 0
IsMadeOfOne call None waits value = value ≡ unlisted waits
IsMadeOfOne call (Some members) waits value = IsListed (made_of_one call members) value

-- the group that a call makes of the two others that it names
abbrev pub IsOfTwoNamed : List Made → List GroupValue → GroupCall → Meant → GroupValue → Type 0
IsOfTwoNamed comms values call meant value = (waits : Bool)
    × IsMadeOfTwo call (ranks_at comms values meant.group) (ranks_at comms values meant.second) waits value

-- the group that a call makes of the one that it names
abbrev pub IsOfOneNamed : List Made → List GroupValue → GroupCall → Meant → GroupValue → Type 0
IsOfOneNamed comms values call meant value = (waits : Bool) × IsMadeOfOne call (ranks_at comms values meant.group) waits value

-- The group that a call gives: of a communicator, by how its handle stands, or of one or two groups, where they are
-- known.
abbrev pub IsValueOf : List Made → GroupCall → Option HandleState → Option (List ℕ) → Option (List ℕ) → GroupValue → Type 0
IsValueOf inters (calls.OfComm comm) standing first second value = IsGroupOf inters false standing value
IsValueOf inters (calls.OfRemote comm) standing first second value = IsGroupOf inters true standing value
IsValueOf inters calls.Unread standing first second value = value ≡ values.Unknown
IsValueOf inters (calls.Union a b) standing first second value = (waits : Bool) × IsMadeOfTwo (calls.Union a b) first second waits value
IsValueOf inters (calls.Intersection a b) standing first second value = (waits : Bool) × IsMadeOfTwo (calls.Intersection a b) first second waits value
IsValueOf inters (calls.Difference a b) standing first second value = (waits : Bool) × IsMadeOfTwo (calls.Difference a b) first second waits value
IsValueOf inters (calls.Incl group ranks) standing first second value = (waits : Bool) × IsMadeOfOne (calls.Incl group ranks) first waits value
IsValueOf inters (calls.Excl group ranks) standing first second value = (waits : Bool) × IsMadeOfOne (calls.Excl group ranks) first waits value
IsValueOf inters (calls.RangeIncl group ranges) standing first second value = (waits : Bool) × IsMadeOfOne (calls.RangeIncl group ranges) first waits value
IsValueOf inters (calls.RangeExcl group ranges) standing first second value = (waits : Bool) × IsMadeOfOne (calls.RangeExcl group ranges) first waits value

-- the same, by how the handles of the rank stand and what the groups of its other calls are
abbrev pub IsValueNamed : List HandleState → List GroupValue → List Made → List Made → GroupCall → Meant → GroupValue → Type 0
IsValueNamed standings values comms inters call meant value =
    IsValueOf inters call (option_and_then (slice_get standings) meant.comm) (ranks_at comms values meant.group) (ranks_at comms values meant.second) value
