-- Envelopes in plain numbers: from 2^31 on, a number stands for what has none.
use Rattle.std.specs.Prelude.{◌≡◌, ℕ, ◌+◌, ◌^◌, ◌==◌, Option, Some, None, if◌then◌else◌}
use Rattle.std.proofs.Common.{arith}
use Rattle.std.proofs.lemmas.Grind.{common_steps}
use Rattle.mpi_model.specs.declared.envelope.Peer.{Peer}
use Rattle.mpi_model.specs.declared.envelope.Peer.TheVariants as peers
use Rattle.mpi_model.specs.declared.envelope.CommRef.{CommRef}
use Rattle.mpi_model.specs.declared.envelope.CommRef.TheVariants as comms

-- the peer that a number stands for
abbrev pub peer_of : ℕ → Peer
peer_of n = if n == 2 ^ 31 then peers.Null else if n == 2 ^ 31 + 1 then peers.Any else peers.Rank n

-- the number of a peer
abbrev pub peer_number : Peer → ℕ
peer_number peers.Any = 2 ^ 31 + 1
peer_number peers.Null = 2 ^ 31
peer_number (peers.Rank n) = n

-- Each number is that of the peer that it stands for.
pub peer_number-peer_of : (n : ℕ) → peer_number (peer_of n) ≡ n
peer_number-peer_of n = grind (arith, common_steps)

-- the tag that a number stands for
abbrev pub tag_of : ℕ → Option ℕ
tag_of n = if n == 2 ^ 31 then None else Some n

-- the number of a tag
abbrev pub tag_number : Option ℕ → ℕ
tag_number None = 2 ^ 31
tag_number (Some n) = n

-- Each number is that of the tag that it stands for.
pub tag_number-tag_of : (n : ℕ) → tag_number (tag_of n) ≡ n
tag_number-tag_of n = grind (arith, common_steps)

-- the communicator that a number stands for
abbrev pub comm_of : ℕ → CommRef
comm_of n = if n == 2 ^ 31 then comms.World else comms.Id n

-- the number of a communicator
abbrev pub comm_number : CommRef → ℕ
comm_number comms.World = 2 ^ 31
comm_number (comms.Id n) = n

-- Each number is that of the communicator that it stands for.
pub comm_number-comm_of : (n : ℕ) → comm_number (comm_of n) ≡ n
comm_number-comm_of n = grind (arith, common_steps)
