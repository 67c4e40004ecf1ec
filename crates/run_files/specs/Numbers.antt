-- By which numbers the members of a communicator name it, as a layout tells.
use Rattle.std.specs.Prelude.{ℕ, List, [], Option, Some, None, if◌then◌else◌, is_some, option_and_then, option_map}
use Rattle.serde_json.specs.Data.{Data, Items, no_items, item}
use Rattle.serde_json.specs.Find.{as_array, as_null}
use Rattle.mpi_model.specs.declared.layout.comm.Stretch.{Stretch}
use Rattle.mpi_model.specs.Names.{always}
use Rattle.run_files.specs.Fields.{or_absent, u32_in, u64_in, with_first}

-- the number of a call, or null where a stretch has no end
abbrev pub end_in : Data → Option (Option ℕ)
end_in value = if is_some (as_null value) then Some None else option_map (λ n. Some n) (u64_in value)

-- a number over a stretch of calls, where all of its parts can be read
abbrev pub stretch_from : Option ℕ → Option ℕ → Option (Option ℕ) → Option Stretch
stretch_from None first end = None
stretch_from (Some number) None end = None
stretch_from (Some number) (Some first) None = None
stretch_from (Some number) (Some first) (Some end) = Some (record { number = number; first = first; end = end })

-- a number, the first call and the end
abbrev pub stretch_in : Items → Option Stretch
stretch_in (item named (item first (item end no_items))) = stretch_from (u32_in named) (u64_in first) (end_in end)
stretch_in values = None

-- an entry: a list is a number over a stretch of calls, a number one over all calls
abbrev pub number_from : Option Items → Option ℕ → Option Stretch
number_from None number = option_map always number
number_from (Some values) number = stretch_in values

-- a member's entry: null, a stretch, or a number over all calls
abbrev pub entry_in : Data → Option (Option Stretch)
entry_in value = if is_some (as_null value) then Some None else option_map (λ s. Some s) (number_from (as_array value) (u32_in value))

-- the entries of all members
abbrev pub entries_in : Items → Option (List (Option Stretch))
entries_in no_items = Some []
entries_in (item value values) = with_first (entry_in value) (entries_in values)

-- the entries of a field, none where it is absent
abbrev pub numbers_in : Option Data → Option (List (Option Stretch))
numbers_in field = or_absent [] (λ value. option_and_then entries_in (as_array value)) field
