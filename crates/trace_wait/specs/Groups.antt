-- The members of communicators, each list with the number of its communicator.
use Rattle.std.specs.Prelude.{◌≡◌, ℕ, List, All, Vec}
use Rattle.std.specs.declared.alloc.Global.{Global}
use Rattle.std.specs.declared.sync.Arc.{Arc}
use Rattle.mpi_model.specs.Communicators.{Communicator}
use Rattle.trace_wait.specs.Rounds.{group}

-- each list has the members of its communicator
abbrev pub AreGroups : List Communicator → List (ℕ × Arc (Vec ℕ Global) Global) → Type 0
AreGroups comms groups = All (λ g. g.1.value.items ≡ group comms g.0) groups
