-- What holds of the ops of ranks, whatever the events are.
use Rattle.std.specs.Prelude.{◌⊎◌, ◌++◌, ℕ, Bool, List}
use Rattle.mpi_model.specs.declared.event.Event.{Event}
use Rattle.mpi_model.specs.Layouts.{Parts}
use Rattle.trace_know.specs.View.{View, join}
use Rattle.trace_ops.specs.Ops.{Grows}
use Rattle.trace_ops.specs.RankOps.{ops_by, ops_of}

-- Where a rank has more readable events, its ops grow.
abbrev pub OpsGrow : Type 0
OpsGrow = (layout : Parts) (rank : ℕ) (one other : Bool) (events more : List Event) →
    Grows (ops_by layout rank one events) (ops_by layout rank other (events ++ more))

-- Where more is known, by one join, the ops of a rank grow or are cut.
abbrev pub JoinGrowsOrCuts : Type 0
JoinGrowsOrCuts = (layout : Parts) (a b : View) (rank : ℕ) →
    Grows (ops_of layout a rank) (ops_of layout (join a b) rank) ⊎ Grows (ops_of layout (join a b) rank) (ops_of layout a rank)
