-- The places of an outcome, and which request each completes.
use Rattle.std.specs.Prelude.{ℤ, Option, Some, List, map}
use Rattle.std.specs.List.{filter_map}
use Rattle.mpi_model.specs.declared.call.Call.{Call}
use Rattle.mpi_model.specs.declared.call.Call.TheVariants.{Waitsome, Testsome}
use Rattle.mpi_model.specs.declared.outcome.Outs.{Outs}
use Rattle.mpi_model.specs.declared.outcome.Outs.TheVariants.{Several}
use Rattle.mpi_model.specs.declared.told.Told.{Told}
use Rattle.trace_ops.specs.declared.completed.Completed.{Completed}
use Rattle.trace_ops.specs.Request.{all_of, completions, element_of}

-- What each place of an outcome completes: an element of a Waitsome or Testsome whose index is past the list completes
-- nothing.
abbrev pub places_of : Call → Option Outs → List (Option Completed)
places_of (Waitsome requests) (Some (Several elements)) = map (element_of requests) elements
places_of (Testsome requests) (Some (Several elements)) = map (element_of requests) elements
places_of call outs = map (λ c. Some c) (completions call outs)

-- the requests that these places complete
abbrev pub completed_in : List (Option Completed) → List Completed
completed_in places = filter_map (λ o. o) places

-- all of a list, as places
abbrev pub all_places : List ℤ → List Told → List (Option Completed)
all_places requests tells = map (λ c. Some c) (all_of requests tells)
