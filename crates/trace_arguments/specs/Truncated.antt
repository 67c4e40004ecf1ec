-- The pairs of a message and a receive that is too short for it (MPI 4.0, 3.2.4).
use Rattle.std.specs.Prelude.{ℕ, List, Option, Some, None, option_and_then, option_map, if◌then◌else◌}
use Rattle.std.specs.List.{filter_map}
use Rattle.mpi_model.specs.declared.message.Message.{Message}
use Rattle.mpi_model.specs.declared.message.Receive.{Receive}
use Rattle.trace_ops.specs.Ops.{Ops}
use Rattle.trace_pair.specs.declared.pair.Pair.{Pair}
use Rattle.trace_wait.specs.Parts.{receive_of, send_of}
use Rattle.trace_wait.specs.Ranks.{ops_of}
use Rattle.trace_arguments.specs.declared.truncated.Truncated.{Truncated}

-- a message and its receive
abbrev pub beside : Message → Receive → Truncated
beside message receive = record { message = message; receive = receive }

-- those of a pair
abbrev pub couple_of : List Ops → Pair → Option Truncated
couple_of ops pair =
    option_and_then (λ m. option_map (beside m) (receive_of (ops_of ops pair.receive.rank) pair.receive)) (send_of (ops_of ops pair.message.rank) pair.message)

-- those of a pair that is over
abbrev pub truncated_by : List Ops → Pair → Option Truncated
truncated_by ops pair = if pair.over then couple_of ops pair else None

-- those of all such pairs, in their order
abbrev pub truncated_of : List Ops → List Pair → List Truncated
truncated_of ops pairs = filter_map (truncated_by ops) pairs
