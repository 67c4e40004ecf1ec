-- How near misses are put together. No public clause speaks of it.
use Rattle.std.specs.Prelude.{◌≡◌, ℕ, if◌then◌else◌, Option, Some, None, List, [], ◌∷◌, slice_get}
use Rattle.mpi_model.specs.declared.event.OpName.{OpName}
use Rattle.mpi_model.specs.declared.message.Message.{Message}
use Rattle.mpi_model.specs.declared.message.Receive.{Receive}
use Rattle.diagnosis_value.specs.declared.diagnosis.NearMessage.{NearMessage}
use Rattle.diagnosis_value.specs.declared.diagnosis.NearReceive.{NearReceive}
use Rattle.diagnosis_value.specs.declared.diagnosis.Why.{Why}
use Rattle.trace_diagnosis.specs.Near.{is_near}
use Rattle.trace_diagnosis.specs.declared.near.Way.TheVariants.{Tag, Comm, Source, Dest}
use Rattle.trace_diagnosis.specs.declared.unmatched.InOneThing.{InOneThing}
use Rattle.trace_diagnosis.specs.declared.unmatched.AllReceives.{AllReceives}

-- the receive, where it is a near miss of the message
abbrev pub near_receive : Why → Message → Receive → List NearReceive
near_receive why m q = if is_near why m q then record { why = why; receive = q } ∷ [] else []

abbrev pub near_receive_of : Why → Message → Option Receive → List NearReceive
near_receive_of why m None = []
near_receive_of why m (Some q) = near_receive why m q

-- the receive at a place
abbrev pub near_receive_at : Why → Message → List Receive → ℕ → List NearReceive
near_receive_at why m receives place = near_receive_of why m (slice_get receives place)

-- the message, where it is a near miss of the receive
abbrev pub near_message : Why → Receive → Option OpName → Message → List NearMessage
near_message why q by m = if is_near why m q then record { why = why; message = m; by = by } ∷ [] else []

abbrev pub near_message_of : Why → Receive → Option Message → List NearMessage
near_message_of why q None = []
near_message_of why q (Some m) = near_message why q None m

-- the message at a place
abbrev pub near_message_at : Why → Receive → List Message → ℕ → List NearMessage
near_message_at why q messages place = near_message_of why q (slice_get messages place)

-- Messages look among these receives.
pub record LookAmong (starving : List Receive) (tables : AllReceives) : Type 0 where
  pub tag : tables.tag ≡ (Tag, starving)
  pub comm : tables.comm ≡ (Comm, starving)
  pub source : tables.source ≡ (Source, starving)
  pub dest : tables.dest ≡ (Dest, starving)

-- These receives look among these messages.
pub record LookForMessages (left : List Message) (starving : List Receive) (tables : InOneThing) : Type 0 where
  pub tag : tables.tag ≡ (Tag, left, starving)
  pub comm : tables.comm ≡ (Comm, left, starving)
  pub source : tables.source ≡ (Source, left, starving)
  pub dest : tables.dest ≡ (Dest, left, starving)
