-- Worked examples: what the rules say of some small runs. Calls of one communicator 2 unless said otherwise.
use Rattle.std.specs.Prelude.{◌≡◌, ◌==◌, ◌&&◌, ◌||◌, ℕ, Bool, true, false, pos, Option, Some, None, List, [], ◌∷◌}
use Rattle.mpi_model.specs.declared.event.OpName.{OpName}
use Rattle.mpi_model.specs.declared.envelope.Mode.TheVariants.{Standard}
use Rattle.mpi_model.specs.declared.message.Message.{Message}
use Rattle.mpi_model.specs.declared.message.Receive.{Receive}
use Rattle.mpi_model.specs.declared.kind.Kind.{Kind}
use Rattle.mpi_model.specs.declared.kind.Kind.TheVariants.{Barrier, Allreduce, CommDup}
use Rattle.mpi_model.specs.declared.message.Trust.{Trust}
use Rattle.mpi_model.specs.declared.message.Trust.TheVariants.{Sure, Doubtful, Void}
use Rattle.trace_ops.specs.declared.entered.Entered.{Entered}
use Rattle.trace_ops.specs.Ops.{Ops, no_ops}
use Rattle.trace_pair.specs.declared.pair.Pair.{Pair}
use Rattle.trace_pair.specs.Certainty.{IsLegalFor}
use Rattle.trace_pair.specs.Table.{Table, table_of, table_with}

-- a part of a call of a rank
abbrev pub part_of : ℕ → ℕ → ℕ → OpName
part_of rank call part = record { rank = rank; call = call; part = part }

-- a call of a rank
abbrev pub op : ℕ → ℕ → OpName
op rank call = part_of rank call 0

-- a message of one rank's call to another rank, with a tag
abbrev sends : ℕ → ℕ → ℕ → ℕ → Message
sends rank call to tag = record { name = op rank call; comm = 2; from = rank; to = to; tag = tag; mode = Standard; trust = Sure; count = 1; datatype = pos 11 }

-- a receive on communicator 2, of a source or any, of a tag or any, which its own call completes
abbrev receives : ℕ → ℕ → Option ℕ → Option ℕ → Receive
receives rank call source tag = record { name = op rank call; comm = 2; at = rank; source = source; tag = tag; count = 1; trust = Sure; ended = Some call; datatype = pos 11 }

-- a pair, by the message's call and the receive's
abbrev pair : ℕ → ℕ → ℕ → ℕ → Pair
pair rank call at by = record { message = op rank call; receive = op at by; over = false }

-- a table of these pairs and postponed messages
abbrev table : List Pair → List OpName → Table
table pairs postponed = record { pairs = pairs; postponed = postponed }

-- the table of messages and receives of which none comes after another
abbrev alone : List Message → List Receive → Table
alone ms qs = table_with (λ m q. false) ms qs

-- A send of more elements than the receive takes is over, and one of as many isn't.
abbrev pub Over : Type 0
Over = (alone ((record (sends 0 0 1 7) { count = 4 }) ∷ []) ((record (receives 1 0 (Some 0) (Some 7)) { count = 3 }) ∷ []) ≡ table ((record (pair 0 0 1 0) { over = true }) ∷ []) [])
    × (alone ((record (sends 0 0 1 7) { count = 4 }) ∷ []) ((record (receives 1 0 (Some 0) (Some 7)) { count = 4 }) ∷ []) ≡ table (pair 0 0 1 0 ∷ []) [])

-- A receive of any tag takes the first message, and the next receive doesn't fit the second.
abbrev pub AnyTag : Type 0
AnyTag = alone (sends 0 0 1 5 ∷ sends 0 1 1 6 ∷ []) (receives 1 0 (Some 0) None ∷ receives 1 1 (Some 0) (Some 5) ∷ []) ≡ table (pair 0 0 1 0 ∷ []) []

-- An untold receive hides the message from the receive behind it: the message is postponed.
abbrev pub Hidden : Type 0
Hidden = alone (sends 0 0 1 7 ∷ []) (receives 1 0 None (Some 7) ∷ receives 1 1 (Some 0) (Some 7) ∷ []) ≡ table [] (op 0 0 ∷ [])

-- Once a status tells that it took from rank 2, the next receive has the message.
abbrev pub ToldLater : Type 0
ToldLater = alone (sends 0 0 1 7 ∷ []) (receives 1 0 (Some 2) (Some 7) ∷ receives 1 1 (Some 0) (Some 7) ∷ []) ≡ table (pair 0 0 1 1 ∷ []) []

-- Messages of one sender go to one rank's receives in order.
abbrev pub InOrder : Type 0
InOrder = alone (sends 0 0 1 7 ∷ sends 0 1 1 7 ∷ sends 0 2 1 7 ∷ []) (receives 1 0 (Some 0) (Some 7) ∷ receives 1 1 (Some 0) (Some 7) ∷ receives 1 2 (Some 0) (Some 7) ∷ [])
    ≡ table (pair 0 0 1 0 ∷ pair 0 1 1 1 ∷ pair 0 2 1 2 ∷ []) []

-- Where the sender's later calls became unreadable, the first pair stays.
abbrev pub CutBack : Type 0
CutBack = alone (sends 0 0 1 7 ∷ []) (receives 1 0 (Some 0) (Some 7) ∷ receives 1 1 (Some 0) (Some 7) ∷ receives 1 2 (Some 0) (Some 7) ∷ []) ≡ table (pair 0 0 1 0 ∷ []) []

-- Two ranks that exchange by Sendrecv are two pairs.
abbrev pub Exchanged : Type 0
Exchanged = alone (sends 0 0 1 7 ∷ sends 1 0 0 7 ∷ []) (receives 0 0 (Some 1) (Some 7) ∷ receives 1 0 (Some 0) (Some 7) ∷ []) ≡ table (pair 0 0 1 0 ∷ pair 1 0 0 0 ∷ []) []

-- Two senders on receives of any source, which statuses tell: 0, 2, 2, 0.
abbrev pub Interleaved : Type 0
Interleaved = alone (sends 0 0 1 7 ∷ sends 0 1 1 7 ∷ sends 2 0 1 7 ∷ sends 2 1 1 7 ∷ [])
    (receives 1 0 (Some 0) (Some 7) ∷ receives 1 1 (Some 2) (Some 7) ∷ receives 1 2 (Some 2) (Some 7) ∷ receives 1 3 (Some 0) (Some 7) ∷ [])
    ≡ table (pair 0 0 1 0 ∷ pair 0 1 1 3 ∷ pair 2 0 1 1 ∷ pair 2 1 1 2 ∷ []) []

-- One untold receive holds back all that come behind it, and telling its source frees them at once.
abbrev pub Freed : Type 0
Freed = (alone (sends 0 0 1 7 ∷ sends 0 1 1 7 ∷ []) (receives 1 0 None None ∷ receives 1 1 (Some 0) (Some 7) ∷ receives 1 2 (Some 0) (Some 7) ∷ []) ≡ table [] (op 0 0 ∷ op 0 1 ∷ []))
    × (alone (sends 0 0 1 7 ∷ sends 0 1 1 7 ∷ []) (receives 1 0 (Some 2) None ∷ receives 1 1 (Some 0) (Some 7) ∷ receives 1 2 (Some 0) (Some 7) ∷ [])
    ≡ table (pair 0 0 1 1 ∷ pair 0 1 1 2 ∷ []) [])

-- Messages of one sender and tag on two communicators don't order one another.
abbrev pub TwoCommunicators : Type 0
TwoCommunicators = alone (sends 0 0 1 7 ∷ (record (sends 0 1 1 7) { comm = 3 }) ∷ []) ((record (receives 1 0 (Some 0) (Some 7)) { comm = 3 }) ∷ receives 1 1 (Some 0) (Some 7) ∷ [])
    ≡ table (pair 0 0 1 1 ∷ pair 0 1 1 0 ∷ []) []

-- a message and a receive of tag 7 that a Cancel may have left so
abbrev left : ℕ → ℕ → ℕ → Trust → Message
left rank call to trust = record (sends rank call to 7) { trust = trust }

-- a receive of tag 7, sure or not
abbrev posted : ℕ → ℕ → Option ℕ → Trust → Receive
posted rank call source trust = record (receives rank call source (Some 7)) { trust = trust }

-- A receive that a Cancel names takes nothing for sure, and holds back what is behind it: the messages are postponed.
abbrev pub CancelledReceive : Type 0
CancelledReceive = (alone (left 1 0 0 Sure ∷ left 1 1 0 Sure ∷ []) (posted 0 0 (Some 1) Doubtful ∷ posted 0 3 (Some 1) Sure ∷ []) ≡ table [] (op 1 0 ∷ op 1 1 ∷ []))

-- Told that it was cancelled, it is passed over. Told its source, it took the first message.
abbrev pub ToldCancelled : Type 0
ToldCancelled = (alone (left 1 0 0 Sure ∷ left 1 1 0 Sure ∷ []) (posted 0 0 (Some 1) Void ∷ posted 0 3 (Some 1) Sure ∷ []) ≡ table (pair 1 0 0 3 ∷ []) [])
    × (alone (left 1 0 0 Sure ∷ left 1 1 0 Sure ∷ []) (posted 0 0 (Some 1) Sure ∷ posted 0 3 (Some 1) Sure ∷ []) ≡ table (pair 1 0 0 0 ∷ pair 1 1 0 3 ∷ []) [])
    × (alone (left 1 0 0 Sure ∷ []) (posted 0 0 None Void ∷ posted 0 3 (Some 1) Sure ∷ []) ≡ table (pair 1 0 0 3 ∷ []) [])

-- So too a message: behind a doubtful one nothing is sure, and a void one is passed over.
abbrev pub CancelledMessage : Type 0
CancelledMessage = (alone (left 0 0 1 Doubtful ∷ left 0 2 1 Sure ∷ []) (posted 1 0 (Some 0) Sure ∷ posted 1 1 (Some 0) Sure ∷ []) ≡ table [] [])
    × (alone (left 0 0 1 Void ∷ left 0 3 1 Sure ∷ []) (posted 1 0 (Some 0) Sure ∷ posted 1 1 (Some 0) Sure ∷ []) ≡ table (pair 0 3 1 0 ∷ []) [])

-- what a rank did, which communicator 2 holds
abbrev did : List Message → List Receive → List Entered → Ops
did ms qs rounds = record no_ops { sends = ms; receives = qs; rounds = rounds; comms = 2 ∷ [] }

-- an entry into a collective call
abbrev enters : ℕ → Kind → Bool → ℕ → Entered
enters comm kind nonblocking call = record { comm = comm; inter = false; function = record { kind = kind; nonblocking = nonblocking }; root = None; call = call }

-- into a Barrier on communicator 2
abbrev barrier : ℕ → Entered
barrier call = enters 2 Barrier false call

-- Rank 0 posts a receive of any source and tag, which a Cancel names, and which its call `ended` completes without
-- telling what became of it. Rank 1 enters a collective call and sends, rank 2 sends and enters a Barrier.
abbrev cancelled : Option ℕ → List Receive → List Entered → Entered → List ℕ → List Ops
cancelled ended more rounds first comms =
    did [] ((record (receives 0 0 None None) { trust = Doubtful; ended = ended }) ∷ more) rounds
    ∷ (record (did (sends 1 1 0 7 ∷ []) [] (first ∷ [])) { comms = comms })
    ∷ did (sends 2 0 0 7 ∷ []) [] (barrier 1 ∷ [])
    ∷ []

-- its receives from ranks 1 and 2 behind that
abbrev both : List Receive
both = receives 0 4 (Some 1) (Some 7) ∷ receives 0 5 (Some 2) (Some 7) ∷ []

-- What rank 1 sends once it has left the Barrier isn't what a receive took that was completed before rank 0 entered it.
-- So it is while rank 0 isn't there yet. As long as no outcome completes the receive, it may have taken either message.
-- A Comm_dup that rank 0's calls alone tell of makes no difference: it isn't counted.
abbrev pub BehindABarrier : Type 0
BehindABarrier = (table_of (cancelled (Some 2) both (barrier 3 ∷ []) (barrier 0) (2 ∷ [])) ≡ table (pair 1 1 0 4 ∷ []) (op 2 0 ∷ []))
    × (table_of (cancelled (Some 2) [] [] (barrier 0) (2 ∷ [])) ≡ table [] (op 2 0 ∷ []))
    × (table_of (cancelled None [] [] (barrier 0) (2 ∷ [])) ≡ table [] (op 1 1 ∷ op 2 0 ∷ []))
    × (table_of (cancelled (Some 2) both (enters 2 CommDup false 1 ∷ barrier 3 ∷ []) (barrier 0) (2 ∷ [])) ≡ table (pair 1 1 0 4 ∷ []) (op 2 0 ∷ []))

-- The receive may have taken it where it is completed only behind the Barrier, and where rank 1 comes from another kind
-- of call, or from an Ibarrier.
abbrev pub NotBehindABarrier : Type 0
NotBehindABarrier = (table_of (cancelled (Some 3) both (barrier 2 ∷ []) (barrier 0) (2 ∷ [])) ≡ table [] (op 1 1 ∷ op 2 0 ∷ []))
    × (table_of (cancelled (Some 2) both (barrier 3 ∷ []) (enters 2 Allreduce false 0) (2 ∷ [])) ≡ table [] (op 1 1 ∷ op 2 0 ∷ []))
    × (table_of (cancelled (Some 2) both (barrier 3 ∷ []) (enters 2 Barrier true 0) (2 ∷ [])) ≡ table [] (op 1 1 ∷ op 2 0 ∷ []))

-- So too where the Barrier is one of a communicator that doesn't hold rank 0, or where rank 0 was in a Barrier before.
abbrev pub OfAnotherBarrier : Type 0
OfAnotherBarrier = (table_of (cancelled (Some 2) both (barrier 3 ∷ []) (enters 3 Barrier false 0) (2 ∷ 3 ∷ [])) ≡ table [] (op 1 1 ∷ op 2 0 ∷ []))
    × (table_of (cancelled (Some 2) both (barrier 1 ∷ barrier 3 ∷ []) (barrier 0) (2 ∷ [])) ≡ table [] (op 1 1 ∷ op 2 0 ∷ []))

-- Rank 0 receives from any source in its call 0, which call `ended` completes without telling the source, and from
-- itself in its call 1, which call 3 completes; in its call 2 it sends to itself. Rank 1 sends to it.
abbrev to_itself : ℕ → List Ops
to_itself ended =
    did (sends 0 2 0 7 ∷ []) ((record (receives 0 0 None (Some 7)) { ended = Some ended }) ∷ (record (receives 0 1 (Some 0) (Some 7)) { ended = Some 3 }) ∷ []) []
    ∷ did (sends 1 0 0 7 ∷ []) [] [] ∷ []

-- What a rank sends to itself isn't what a receive of its own took that was completed before.
abbrev pub BehindTheEnd : Type 0
BehindTheEnd = table_of (to_itself 0) ≡ table (pair 0 2 0 1 ∷ []) (op 1 0 ∷ [])

-- It may be where the receive wasn't completed yet.
abbrev pub NotBehindTheEnd : Type 0
NotBehindTheEnd = table_of (to_itself 3) ≡ table [] (op 0 2 ∷ op 1 0 ∷ [])

-- a part of a Startall of rank 0, which sends to rank 1
abbrev sends_part : ℕ → ℕ → Message
sends_part part tag = record (sends 0 2 1 tag) { name = part_of 0 2 part }

-- a part of a Startall of rank 1, which receives from rank 0
abbrev receives_part : ℕ → Option ℕ → Receive
receives_part part tag = record (receives 1 2 (Some 0) tag) { name = part_of 1 2 part }

-- Parts that no receive takes both of are paired by their tags, whatever their order in the list.
abbrev pub PartsByTag : Type 0
PartsByTag = (alone (sends_part 0 7 ∷ sends_part 1 8 ∷ []) (receives 1 0 (Some 0) (Some 8) ∷ receives 1 1 (Some 0) (Some 7) ∷ [])
    ≡ table (pair 0 2 1 1 ∷ record { message = part_of 0 2 1; receive = op 1 0; over = false } ∷ []) [])
    × (alone (sends 0 0 1 8 ∷ sends 0 1 1 7 ∷ []) (receives_part 0 (Some 7) ∷ receives_part 1 (Some 8) ∷ [])
    ≡ table (record { message = op 0 0; receive = part_of 1 2 1; over = false } ∷ pair 0 1 1 2 ∷ []) [])

-- Of one tag, each may have been started first: there is no pair, and nothing is postponed.
abbrev pub PartsInAnyOrder : Type 0
PartsInAnyOrder = (alone (sends_part 0 7 ∷ sends_part 1 7 ∷ []) (receives 1 0 (Some 0) (Some 7) ∷ receives 1 1 (Some 0) (Some 7) ∷ []) ≡ table [] [])
    × (alone (sends 0 0 1 7 ∷ sends 0 1 1 7 ∷ []) (receives_part 0 (Some 7) ∷ receives_part 1 (Some 7) ∷ []) ≡ table [] [])

-- A part can go behind the next part: the first fits the second receive alone, and the second, which fits both, was
-- taken by the first. So too of receives: one of any tag takes the first message, and one of a tag the second.
abbrev pub PartBehindPart : Type 0
PartBehindPart = (alone (sends_part 0 7 ∷ sends_part 1 8 ∷ []) (receives 1 0 (Some 0) (Some 8) ∷ receives 1 1 (Some 0) None ∷ [])
    ≡ table (pair 0 2 1 1 ∷ record { message = part_of 0 2 1; receive = op 1 0; over = false } ∷ []) [])
    × (alone (sends 0 0 1 8 ∷ sends 0 1 1 7 ∷ []) (receives_part 0 (Some 7) ∷ receives_part 1 None ∷ [])
    ≡ table (record { message = op 0 0; receive = part_of 1 2 1; over = false } ∷ pair 0 1 1 2 ∷ []) [])

-- An open part may have taken what the others would: it hides messages from parts before it in the list.
abbrev pub OpenPart : Type 0
OpenPart = alone (sends 0 0 1 7 ∷ []) (receives_part 0 (Some 7) ∷ (record (receives_part 1 (Some 7)) { source = None }) ∷ []) ≡ table [] (op 0 0 ∷ [])

-- Rank 0 sends twice. Rank 1 matches a message in its call 0, by a Mprobe that tells rank 0, receives it in its call 1
-- by an Imrecv that call 3 cancels and call 4 completes without telling what became of it, and receives in its calls 2
-- and 5.
abbrev pub probed : List Ops
probed = did (sends 0 0 1 7 ∷ sends 0 1 1 7 ∷ []) [] []
    ∷ did [] (posted 1 0 (Some 0) Doubtful ∷ receives 1 2 (Some 0) (Some 7) ∷ receives 1 5 (Some 0) (Some 7) ∷ []) [] ∷ []

-- the same name
abbrev pub is_name : OpName → OpName → Bool
is_name a b = (a.rank == b.rank) && (a.call == b.call) && (a.part == b.part)

-- the second message by the first of these receives, and the first by the second
abbrev pub given_back : OpName → OpName → Bool
given_back m q = (is_name m (op 0 1) && is_name q (op 1 2)) || (is_name m (op 0 0) && is_name q (op 1 5))

-- The first message may have been given back behind the first of these receives: so that may have the second message,
-- and nothing is a pair.
abbrev pub GivenBack : Type 0
GivenBack = (table_of probed ≡ table [] (op 0 0 ∷ op 0 1 ∷ [])) × IsLegalFor probed given_back
