-- Whether known values of a round's members differ.
use Rattle.std.specs.Prelude.{◌==◌, ◌&&◌, ℕ, Bool, true, false, not, List, [], ◌∷◌, Option, Some, None, slice_get}
use Rattle.std.specs.List.{find, list_all, list_any}
use Rattle.std.specs.Str.{bytes_eq}
use Rattle.call_arguments.specs.Known.{KnownParts}
use Rattle.call_arguments.specs.declared.table.Line.{Line}
use Rattle.call_arguments.specs.declared.table.Line.TheVariants as lines
use Rattle.trace_arguments.specs.Values.{ValuedParts, is_root}
use Rattle.trace_arguments.specs.declared.disagreement.Comparison.{Comparison}

-- what is compared: the name of an operation, else counts
abbrev pub compared : Line → KnownParts → List ℕ
compared lines.Operation known = known.name
compared _ known = known.counts

-- two members have one value
abbrev pub is_alike : Line → ValuedParts → ValuedParts → Bool
is_alike line a b = bytes_eq (compared line a.known) (compared line b.known)

-- two members have one datatype
abbrev pub is_one_type : ValuedParts → ValuedParts → Bool
is_one_type a b = bytes_eq a.known.name b.known.name

-- counts are compared where all of them have one datatype
abbrev pub are_compared : Line → ValuedParts → List ValuedParts → Bool
are_compared lines.Operation first others = true
are_compared _ first others = list_all (is_one_type first) others

-- two known values differ: some value isn't the first one
abbrev pub do_differ : Line → List ValuedParts → Bool
do_differ line [] = false
do_differ line (first ∷ others) = are_compared line first others && not (list_all (is_alike line first) others)

-- what is known of the root
abbrev pub root_of : Option ℕ → List ValuedParts → Option ValuedParts
root_of root values = find (λ v. is_root root v.place) values

-- the counts aren't this one alone
abbrev pub is_other_than : List ℕ → Option ℕ → Bool
is_other_than counts None = false
is_other_than counts (Some count) = not (bytes_eq (count ∷ []) counts)

-- The count of a member isn't the one that the root's list has for it, and both have one datatype.
abbrev pub misfits : ValuedParts → ValuedParts → Bool
misfits root v = not (root.place == v.place) && (is_one_type root v && is_other_than v.known.counts (slice_get root.known.counts v.place))

-- some member's does so, where the root's list is known
abbrev pub some_misfits : Option ValuedParts → List ValuedParts → Bool
some_misfits None values = false
some_misfits (Some root) values = list_any (misfits root) values

-- known values differ in a line
abbrev pub differ_in : Line → Option ℕ → List ValuedParts → Bool
differ_in lines.Listed root values = some_misfits (root_of root values) values
differ_in line root values = do_differ line values

abbrev pub differ : Comparison → List ValuedParts → Bool
differ c values = differ_in c.line c.root values
