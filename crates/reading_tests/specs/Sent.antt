-- How many elements one rank was sent.
use Rattle.std.specs.Prelude.{ℕ, ◌+◌, ◌-◌, ◌^◌, ◌==◌, min, if◌then◌else◌}
use Rattle.mpi_model.specs.declared.call.Call.{Call}
use Rattle.mpi_model.specs.declared.call.Call.TheVariants as calls
use Rattle.mpi_model.specs.declared.envelope.Peer.{Peer}
use Rattle.mpi_model.specs.declared.envelope.Peer.TheVariants as peers

-- The elements with those of one send more, where it goes to the rank. The sum stays at the greatest value of a `u64`.
abbrev pub elements_with : ℕ → ℕ → Peer → ℕ → ℕ
elements_with rank elements (peers.Rank to) count = if to == rank then min (elements + count) (2 ^ 64 - 1) else elements
elements_with rank elements peers.Any count = elements
elements_with rank elements peers.Null count = elements

-- the elements with those of one call more
abbrev pub elements_after : ℕ → ℕ → Call → ℕ
elements_after rank elements (calls.Send mode envelope) = elements_with rank elements envelope.peer envelope.count
elements_after rank elements (calls.Isend mode envelope) = elements_with rank elements envelope.peer envelope.count
elements_after rank elements (calls.Sendrecv exchange) = elements_with rank elements exchange.send.peer exchange.send.count
elements_after rank elements _ = elements
