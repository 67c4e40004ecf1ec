-- What the collective calls of a text tell of their arguments.
use Rattle.std.specs.Prelude.{ℕ, List, [], ◌∷◌, ◌++◌, Option, Some, None, option_and_then, option_to_list, if◌then◌else◌}
use Rattle.mpi_model.specs.Failures.{one_more}
use Rattle.mpi_model.specs.declared.call.Call.{Call}
use Rattle.mpi_model.specs.declared.call.Call.TheVariants as variants
use Rattle.mpi_model.specs.declared.kind.Kind.{Kind}
use Rattle.dumpi_text.specs.Call.{TextCall}
use Rattle.call_arguments.specs.Known.{ToldParts, is_empty}
use Rattle.call_arguments.specs.Told.{told_of}

-- A call by its number among the calls of its text, from 0, and what it tells.
pub record CallToldParts : Type 0 where
  pub number : ℕ
  pub told : ToldParts

-- the kind of a collective call, blocking or not
abbrev pub kind_of : Call → Option Kind
kind_of (variants.Collective c) = Some c.kind
kind_of (variants.Icollective c) = Some c.kind
kind_of _ = None

-- a call of which something is known
abbrev pub unless_empty : ℕ → ToldParts → Option CallToldParts
unless_empty number told = if is_empty told then None else Some (record { number = number; told = told })

-- what a call tells, where it is collective and something is known
abbrev pub call_told : ℕ → TextCall → Call → Option CallToldParts
call_told number raw call = option_and_then (λ kind. unless_empty number (told_of kind raw)) (kind_of call)

-- the same of calls with numbers from one on
abbrev pub arguments_from : ℕ → List (TextCall × Call) → List CallToldParts
arguments_from number [] = []
arguments_from number (call ∷ calls) = option_to_list (call_told number call.0 call.1) ++ arguments_from (one_more number) calls
