-- What a Cancel leaves of a message or a receive (MPI 4.0, 3.8.4), and which receives are open.
use Rattle.std.specs.Prelude.{Bool, true, false, ◌&&◌, ◌||◌, not, is_none, is_some}
use Rattle.mpi_model.specs.declared.message.Trust.{Trust}
use Rattle.mpi_model.specs.declared.message.Trust.TheVariants.{Sure, Doubtful, Void}
use Rattle.mpi_model.specs.declared.message.Receive.{Receive}

-- a message or a receive that no Cancel leaves in doubt
abbrev pub is_sure : Trust → Bool
is_sure Sure = true
is_sure Doubtful = false
is_sure Void = false

-- a Cancel names it, and no outcome tells what became of it
abbrev pub is_doubtful : Trust → Bool
is_doubtful Sure = false
is_doubtful Doubtful = true
is_doubtful Void = false

-- an outcome tells that it was cancelled
abbrev pub is_void : Trust → Bool
is_void Sure = false
is_void Doubtful = false
is_void Void = true

-- An open receive may take more than is known of it: its source is untold, or it is doubtful. A
-- void one takes nothing.
abbrev pub is_open : Receive → Bool
is_open q = not (is_void q.trust) && (is_none q.source || is_doubtful q.trust)

-- A settled receive takes what its source tells: it is told, and sure.
abbrev pub is_settled : Receive → Bool
is_settled q = is_some q.source && is_sure q.trust
