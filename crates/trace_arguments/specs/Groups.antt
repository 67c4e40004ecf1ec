-- The members of a round by value.
use Rattle.std.specs.Prelude.{◌==◌, ℕ, Bool, false, List, [], ◌∷◌, Option, Some, None, filter, map, option_to_list, slice_get}
use Rattle.std.specs.List.{find, flat_map}
use Rattle.mpi_model.specs.declared.event.OpName.{OpName}
use Rattle.call_arguments.specs.Known.{KnownParts}
use Rattle.call_arguments.specs.declared.table.Line.{Line}
use Rattle.call_arguments.specs.declared.table.Line.TheVariants as lines
use Rattle.trace_arguments.specs.Differing.{is_alike, misfits, root_of}
use Rattle.trace_arguments.specs.Values.{ValuedParts}
use Rattle.trace_arguments.specs.declared.disagreement.Comparison.{Comparison}

-- The members with one value: that, their ranks, and the call of the first of them.
pub record GroupParts : Type 0 where
  pub value : KnownParts
  pub ranks : List ℕ
  pub call : OpName

-- the name of a call of a rank
abbrev pub named : ℕ → ℕ → OpName
named rank call = record { rank = rank; part = 0; call = call }

-- the name of a member's call
abbrev pub name_of : ValuedParts → OpName
name_of v = named v.rank v.call

-- those that have the value of this one
abbrev pub all_like : Line → ValuedParts → List ValuedParts → List ValuedParts
all_like line v values = filter (λ w. is_alike line w v) values

-- their ranks
abbrev pub ranks_like : Line → ValuedParts → List ValuedParts → List ℕ
ranks_like line v values = map (λ w. w.rank) (all_like line v values)

-- a rank, where there is one, is this
abbrev pub is_rank : ℕ → Option ValuedParts → Bool
is_rank rank None = false
is_rank rank (Some other) = rank == other.rank

-- a member is the first of those with its value
abbrev pub leads : Line → List ValuedParts → ValuedParts → Bool
leads line values v = is_rank v.rank (find (λ w. is_alike line w v) values)

-- a member with all that have its value
abbrev pub group_of : Line → List ValuedParts → ValuedParts → GroupParts
group_of line values v = record { value = v.known; ranks = ranks_like line v values; call = name_of v }

-- the members by value: a group for each first one
abbrev pub grouped : Line → List ValuedParts → List GroupParts
grouped line values = map (group_of line values) (filter (leads line values) values)

-- the count that the root's list has for a member
abbrev pub roots_value : ValuedParts → ValuedParts → KnownParts
roots_value root v = record { name = root.known.name; counts = option_to_list (slice_get root.known.counts v.place) }

-- a member's own value and the root's for it, both with its rank
abbrev pub pair_with : ValuedParts → ValuedParts → List GroupParts
pair_with root v =
    record { value = v.known; ranks = v.rank ∷ []; call = name_of v }
    ∷ record { value = roots_value root v; ranks = v.rank ∷ []; call = name_of root } ∷ []

-- those of each member whose count isn't that of the list
abbrev pub paired : ValuedParts → List ValuedParts → List GroupParts
paired root values = flat_map (pair_with root) (filter (misfits root) values)

-- the same, where the root's list is known
abbrev pub paired_with : Option ValuedParts → List ValuedParts → List GroupParts
paired_with None values = []
paired_with (Some root) values = paired root values

-- the groups that a line tells
abbrev pub groups_in : Line → Option ℕ → List ValuedParts → List GroupParts
groups_in lines.Listed root values = paired_with (root_of root values) values
groups_in line root values = grouped line values

abbrev pub groups_of : Comparison → List ValuedParts → List GroupParts
groups_of c values = groups_in c.line c.root values
