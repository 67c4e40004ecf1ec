-- Which message a receive can take.
use Rattle.std.specs.Prelude.{ℕ, Bool, true, ◌&&◌, ◌==◌, not, Option, Some, None}
use Rattle.mpi_model.specs.Trusts.{is_void}
use Rattle.mpi_model.specs.declared.message.Message.{Message}
use Rattle.mpi_model.specs.declared.message.Receive.{Receive}

-- Nothing is named, or just this number is.
abbrev pub admits : Option ℕ → ℕ → Bool
admits None n = true
admits (Some named) n = named == n

-- The communicator is one, the receiver is the message's destination, and the source and the tag
-- that the receive names are the message's (MPI 4.0, 3.2.3 and 3.2.4).
abbrev pub envelopes_fit : Message → Receive → Bool
envelopes_fit m q = (m.comm == q.comm) && (m.to == q.at) && admits q.source m.from && admits q.tag m.tag

-- The envelopes fit, and neither the message nor the receive was cancelled (MPI 4.0, 3.8.4).
abbrev pub fits : Message → Receive → Bool
fits m q = (m.comm == q.comm) && (m.to == q.at) && admits q.source m.from && admits q.tag m.tag && not (is_void m.trust) && not (is_void q.trust)
