-- By which call a row says that what it posts is completed.
use Rattle.std.specs.Prelude.{◌≡◌, ℕ, Bool, false, true, Option, Some, None}
use Rattle.mpi_model.specs.declared.call.Call.{Call}
use Rattle.mpi_model.specs.declared.call.Call.TheVariants.{Isend, Irecv, Icollective, Imrecv, Start, Startall}
use Rattle.mpi_model.specs.declared.message.Receive.{Receive}

-- the call posts what another call completes
abbrev pub posts : Call → Bool
posts (Isend mode e) = true
posts (Irecv e) = true
posts (Icollective c) = true
posts Imrecv = true
posts (Start request) = true
posts (Startall requests) = true
posts call = false

-- What posts nothing is completed by no other call. A receive is completed by the call that ends it for the answer. Of
-- sends and collective calls no more is said.
abbrev pub IsCompletion : Bool → Option Receive → Option ℕ → Type 0
IsCompletion false receive by = by ≡ None
IsCompletion true (Some q) by = by ≡ q.ended
IsCompletion true None by = Unit {0}
