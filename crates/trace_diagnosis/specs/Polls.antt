-- Polls without success (MPI 4.0, 3.7.3, 3.7.5, 3.8.1 and 3.8.2).
use Rattle.std.specs.Prelude.{Bool, true, false, not, is_none, List, [], ◌∷◌}
use Rattle.mpi_model.specs.declared.call.Call.{Call}
use Rattle.mpi_model.specs.declared.call.Call.TheVariants.{Test, Testall, Testany, Testsome, Iprobe, Improbe}
use Rattle.mpi_model.specs.declared.outcome.Outs.{Outs}
use Rattle.mpi_model.specs.declared.outcome.Outs.TheVariants.{Flag, Index, Several}

-- the call tests or probes, and doesn't wait
abbrev pub is_poll : Call → Bool
is_poll (Test x) = true
is_poll (Testall xs) = true
is_poll (Testany xs) = true
is_poll (Testsome xs) = true
is_poll (Iprobe e) = true
is_poll (Improbe e) = true
is_poll call = false

-- nothing stands in the list
abbrev pub is_nothing : {X : Type 0} → List X → Bool
is_nothing [] = true
is_nothing (x ∷ xs) = false

-- the flag of an outcome isn't set
abbrev pub is_unset : Outs → Bool
is_unset (Flag done told) = not done
is_unset outs = false

-- the outcome has no index
abbrev pub is_without_index : Outs → Bool
is_without_index (Index position told) = is_none position
is_without_index outs = false

-- the outcome has no element
abbrev pub is_of_none : Outs → Bool
is_of_none (Several elements) = is_nothing elements
is_of_none outs = false

-- The test or probe has returned without success.
abbrev pub is_unsuccessful : Call → Outs → Bool
is_unsuccessful (Test x) outs = is_unset outs
is_unsuccessful (Testall xs) outs = is_unset outs
is_unsuccessful (Iprobe e) outs = is_unset outs
is_unsuccessful (Improbe e) outs = is_unset outs
is_unsuccessful (Testany xs) outs = is_without_index outs
is_unsuccessful (Testsome xs) outs = is_of_none outs
is_unsuccessful call outs = false
