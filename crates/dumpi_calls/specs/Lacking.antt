-- Calls that were cut off before their last entry parameter was written.
use Rattle.std.specs.Prelude.{ℕ, Bool, true, false, ◌&&◌, ◌||◌, is_none, is_some, List, [], ◌∷◌, Option, Some, None, if◌then◌else◌}
use Rattle.mpi_model.specs.Kinds.{row as kind_row}
use Rattle.mpi_model.specs.Times.{Times}
use Rattle.dumpi_text.specs.Call.{TextCall}
use Rattle.dumpi_calls.specs.Readings.{object_parameters, text_of}
use Rattle.dumpi_calls.specs.Rows.{first_missing, function_in, probe_parameters, row_of}
use Rattle.dumpi_calls.specs.declared.function.Function.{Function}
use Rattle.dumpi_calls.specs.declared.function.Function.TheVariants as functions
use Rattle.dumpi_calls.specs.declared.parameter.Parameter.{Parameter}

-- none of these parameters is there
abbrev pub is_none_there : List Parameter → TextCall → Bool
is_none_there [] call = true
is_none_there (parameter ∷ parameters) call = is_none (text_of parameter call) && is_none_there parameters call

-- a parameter isn't there without which a call is local: what an Iprobe looks for, or the object of a collective call
-- that moves no data
abbrev pub lacks_lenient : Function → TextCall → Bool
lacks_lenient functions.Iprobe call = is_some (first_missing probe_parameters call)
lacks_lenient (functions.OnObject kind nonblocking) call = is_none_there (object_parameters (kind_row kind).parameter) call
lacks_lenient _ call = false

-- an entry parameter isn't there; where a line of the call was dropped, those count too without which it would be local
abbrev pub lacks_entry : Bool → TextCall → Bool
lacks_entry dropped call = is_some (first_missing (row_of call).entry call) || (dropped && lacks_lenient (function_in call) call)

-- the line of a call that has not returned, where it lacks a parameter
abbrev pub unless_whole : Option Times → Bool → ℕ → Option ℕ
unless_whole (Some exit) lacks line = None
unless_whole None lacks line = if lacks then Some line else None

-- where a call begins that has not returned and lacks an entry parameter
abbrev pub lacking_line : Bool → TextCall → Option ℕ
lacking_line dropped call = unless_whole call.exit (lacks_entry dropped call) call.line
