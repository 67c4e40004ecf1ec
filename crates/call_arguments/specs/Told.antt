-- What a call tells of the arguments that are compared.
use Rattle.std.specs.Prelude.{ℕ, Bool, true, false, List, [], Option, Some, None, codes, option_and_then, option_map, if◌then◌else◌}
use Rattle.mpi_model.specs.declared.kind.Kind.{Kind}
use Rattle.dumpi_text.specs.Call.{TextCall, first_value}
use Rattle.dumpi_text.specs.Value.{value_of}
use Rattle.call_arguments.specs.Counts.{counts_in}
use Rattle.call_arguments.specs.Known.{KnownParts, ToldParts}
use Rattle.call_arguments.specs.Names.{name_in}
use Rattle.call_arguments.specs.Table.{compared_of, count_name, is_list, other_count_name, other_type_name, type_name}
use Rattle.call_arguments.specs.declared.table.Compared.{Compared}
use Rattle.call_arguments.specs.declared.table.Parameters.{Parameters}
use Rattle.call_arguments.specs.declared.table.Rule.{Rule}
use Rattle.call_arguments.specs.declared.table.Rule.TheVariants.{Nothing, Alike, Rooted, Listed}

-- the first of two values that is there
abbrev pub first_of : Option (List ℕ) → Option (List ℕ) → Option (List ℕ)
first_of (Some value) other = Some value
first_of None other = other

-- the value of the first of two names that the call has
abbrev pub value_by : List ℕ → List ℕ → TextCall → Option (List ℕ)
value_by name other raw = first_of (first_value name raw.params) (first_value other raw.params)

-- counts with the name of their datatype
abbrev pub counted_as : List ℕ → List ℕ → KnownParts
counted_as name counts = record { name = name; counts = counts }

-- the counts that these parameters tell, known where their datatype is
abbrev pub counts_of : Parameters → TextCall → Option KnownParts
counts_of p raw = option_and_then (λ name. option_map (counted_as name) (option_and_then (λ text. counts_in (is_list p) (value_of text)) (value_by (count_name p) (other_count_name p) raw)))
    (option_and_then name_in (value_by (type_name p) (other_type_name p) raw))

-- the operation of a reduction
abbrev pub operation_of : Bool → TextCall → Option KnownParts
operation_of false raw = None
operation_of true raw = option_map (λ name. counted_as name []) (option_and_then name_in (first_value (codes "op") raw.params))

-- the counts of each member, and of the root where it has others
abbrev pub members_counts : Rule → TextCall → Option KnownParts
members_counts Nothing raw = None
members_counts (Alike p) raw = counts_of p raw
members_counts (Rooted p root) raw = counts_of p raw
members_counts (Listed p root) raw = counts_of p raw

-- the counts of the root, where they are others
abbrev pub roots_counts : Rule → TextCall → Option KnownParts
roots_counts Nothing raw = None
roots_counts (Alike p) raw = None
roots_counts (Rooted p root) raw = counts_of root raw
roots_counts (Listed p root) raw = counts_of root raw

-- what a call tells, by what is compared of it
abbrev pub told_by : Compared → TextCall → ToldParts
told_by compared raw = record {
  operation = operation_of compared.operation raw;
  counts = members_counts compared.counts raw;
  at_root = roots_counts compared.counts raw;
}

-- what a call of a kind tells
abbrev pub told_of : Kind → TextCall → ToldParts
told_of kind raw = told_by (compared_of kind) raw
