-- The near misses of a message and of a receive.
use Rattle.std.specs.Prelude.{◌≡◌, ◌++◌, Bool, true, false, None, List, All, filter, map, take}
use Rattle.mpi_model.specs.declared.message.Message.{Message}
use Rattle.mpi_model.specs.declared.message.Receive.{Receive}
use Rattle.trace_diagnosis.specs.Near.{is_near}
use Rattle.diagnosis_value.specs.declared.diagnosis.LeftOver.{LeftOver}
use Rattle.diagnosis_value.specs.declared.diagnosis.NearMessage.{NearMessage}
use Rattle.diagnosis_value.specs.declared.diagnosis.NearReceive.{NearReceive}
use Rattle.diagnosis_value.specs.declared.diagnosis.Starving.{Starving}
use Rattle.diagnosis_value.specs.declared.diagnosis.Why.{Why}
use Rattle.diagnosis_value.specs.declared.diagnosis.Why.TheVariants.{Tag, Comm, Source, Dest, Taken, Postponed, Idle}

-- The list goes on with such elements alone.
abbrev pub GoesOn : {X : Type 0} → (X → Type 0) → List X → List X → Type 0
GoesOn {X} P old new = (rest : List X) × (new ≡ old ++ rest) × All P rest

-- the first three of the receives that are near misses of the message in this way
abbrev pub nearest_receives : Why → Message → List Receive → List NearReceive
nearest_receives why m receives = map (λ q. record { why = why; receive = q }) (take 3 (filter (is_near why m) receives))

-- those that differ from it in one thing, sort by sort
abbrev pub first_receives : List Receive → Message → List NearReceive
first_receives receives m = ((nearest_receives Tag m receives ++ nearest_receives Comm m receives) ++ nearest_receives Source m receives) ++ nearest_receives Dest m receives

-- a near miss of this message that is told as one of this sort
abbrev pub IsReceiveOf : Why → Message → NearReceive → Type 0
IsReceiveOf why m near = (near.why ≡ why) × (is_near near.why m near.receive ≡ true)

-- These are told as near misses of the message: of the receives that starve the first three that differ from it in one
-- thing, sort by sort, and then receives that aren't active and fit it.
abbrev pub AreNearReceives : List Receive → Message → List NearReceive → Type 0
AreNearReceives starving m near = GoesOn (IsReceiveOf Idle m) (first_receives starving m) near

-- Such are told of a message that is left over.
abbrev pub HasNearReceives : List Receive → LeftOver → Type 0
HasNearReceives starving told = AreNearReceives starving told.message told.near.items

-- the first three of the messages that are near misses of the receive in this way
abbrev pub nearest_messages : Why → Receive → List Message → List NearMessage
nearest_messages why q messages = map (λ m. record { why = why; message = m; by = None }) (take 3 (filter (λ m. is_near why m q) messages))

-- those that differ from it in one thing, sort by sort
abbrev pub first_messages : List Message → Receive → List NearMessage
first_messages messages q = ((nearest_messages Tag q messages ++ nearest_messages Comm q messages) ++ nearest_messages Source q messages) ++ nearest_messages Dest q messages

-- a near miss of this receive that is told as one of this sort
abbrev pub IsMessageOf : Why → Receive → NearMessage → Type 0
IsMessageOf why q near = (near.why ≡ why) × (is_near near.why near.message q ≡ true)

-- the sorts that differ in one thing
abbrev pub differs_in_one : Why → Bool
differs_in_one Tag = true
differs_in_one Comm = true
differs_in_one Source = true
differs_in_one Dest = true
differs_in_one Taken = false
differs_in_one Postponed = false
differs_in_one Idle = false

-- a message that fits this receive, and is told as one
abbrev pub IsFitMessage : Receive → NearMessage → Type 0
IsFitMessage q near = (differs_in_one near.why ≡ false) × (is_near near.why near.message q ≡ true)

-- These are told as near misses of the receive: of the messages that are left over the first three that differ from it
-- in one thing, sort by sort, and then messages that fit it.
abbrev pub AreNearMessages : List Message → Receive → List NearMessage → Type 0
AreNearMessages left q near = GoesOn (IsFitMessage q) (first_messages left q) near

-- Such are told of a receive that starves.
abbrev pub HasNearMessages : List Message → Starving → Type 0
HasNearMessages left told = AreNearMessages left told.receive told.near.items
