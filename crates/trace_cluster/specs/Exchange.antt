-- What an exchange does to a stream and a node, and what it leaves where it is refused.
use Rattle.std.specs.Prelude.{◌≡◌, false, true, Result, Ok, Err, ⊤}
use Rattle.std.specs.FinMap.{entries}
use Rattle.std.specs.Io.KnownBytes.{Appends}
use Rattle.mpi_model.specs.Side.{Side, LeavesSide}
use Rattle.trace_know.specs.View.{View, join}
use Rattle.trace_node.specs.declared.fault.NodeFault.{NodeFault}
use Rattle.trace_node.specs.declared.fault.NodeFault.TheVariants.{Rank, Memory, Stale}
use Rattle.trace_node.specs.Node.{Held, HasStranger, held}
use Rattle.trace_wire.specs.declared.fault.WireFault.{WireFault}
use Rattle.trace_wire.specs.Frames.{HasFrame, frame_of}
use Rattle.trace_wire.specs.Reading.{IsUnread, ReadsFrame, StaysWithin}
use Rattle.trace_wire.specs.Writing.{IsUnwritten}
use Rattle.trace_cluster.specs.declared.exchange.fault.ExchangeFault.{ExchangeFault}
use Rattle.trace_cluster.specs.declared.exchange.fault.ExchangeFault.TheVariants.{Write, Read, Merge}
use Rattle.trace_cluster.specs.Stream.{Stream}

-- ---- one frame

-- The frame of what is known was written.
abbrev pub Wrote : Side → Side → View → Type 0
Wrote old new know = HasFrame (entries know) × Appends old.bytes new.bytes (frame_of know) × (new.failures ≡ old.failures)

-- It was not, for this cause.
abbrev pub FailsToWrite : Side → Side → View → WireFault → Type 0
FailsToWrite old new know fault = IsUnwritten (entries know) old.bytes new.bytes old.failures new.failures fault

-- One frame was read, of either version, and it tells this.
abbrev pub Got : Side → Side → View → Type 0
Got old new heard = ReadsFrame old.bytes new.bytes (entries heard) × (new.failures ≡ old.failures)

-- None was, for this cause, and no byte past it.
abbrev pub FailsToRead : Side → Side → WireFault → Type 0
FailsToRead old new fault = IsUnread old.bytes old.failures new.failures fault × StaysWithin old.bytes new.bytes

-- One was read, or none.
abbrev pub GetsFrame : Side → Side → Result View ExchangeFault → Type 0
GetsFrame old new (Ok heard) = Got old new heard
GetsFrame old new (Err (Read fault)) = FailsToRead old new fault
GetsFrame old new (Err fault) = ⊥

-- ---- one frame each way

-- The frame of what is known was written, and then one was read. Where the write was refused, nothing was read.
abbrev pub ExchangesFrames : Stream → Stream → View → Result View ExchangeFault → Type 0
ExchangesFrames old new know (Err (Write fault)) = FailsToWrite old.writes new.writes know fault × LeavesSide old.reads new.reads
ExchangesFrames old new know result = Wrote old.writes new.writes know × GetsFrame old.reads new.reads result

-- What is known has a frame, and what was heard.
abbrev pub HaveFrames : View → View → Type 0
HaveFrames know heard = HasFrame (entries know) × HasFrame (entries heard)

-- It is why a frame was not written or not read, and not why a merge was refused.
abbrev pub IsOfFrame : ExchangeFault → Type 0
IsOfFrame (Merge fault) = ⊥
IsOfFrame fault = ⊤

-- ---- a node

-- a node that has joined more: with an answer to all of it, or without
abbrev pub with_more : Held → View → Held
with_more node heard = held node.layout (join node.know heard) false

-- the node with what was heard, and without an answer
abbrev pub stale_with_more : Held → View → Held
stale_with_more node heard = held node.layout (join node.know heard) true

-- A node that had an answer has joined more, and has one to all of it.
abbrev pub Learns : Held → View → Held → Type 0
Learns before heard after = (before.is_stale ≡ false) × (after ≡ with_more before heard)

-- Why a merge was refused, and what it leaves: something is told of a rank that the layout lacks; no memory was left to
-- join it; it was joined, and there is no answer.
abbrev pub IsUnmerged : Held → View → Held → NodeFault → Type 0
IsUnmerged before heard after Rank = HasStranger before.layout heard × (after ≡ before)
IsUnmerged before heard after Memory = (HasStranger before.layout heard → ⊥) × (after ≡ before)
IsUnmerged before heard after Stale = (HasStranger before.layout heard → ⊥) × (after ≡ stale_with_more before heard)

-- A node joined what was heard, or refused that.
abbrev pub Merges : Held → View → Held → Result (Unit {0}) ExchangeFault → Type 0
Merges before heard after (Ok ok) = Learns before heard after
Merges before heard after (Err (Merge fault)) = IsUnmerged before heard after fault
Merges before heard after (Err fault) = ⊥

-- ---- an exchange

-- A frame was read, and the node joined what it tells; or the node refused that; or no frame was read and no byte past
-- it, and the node is as it was.
abbrev pub Hears : Side → Side → Held → Held → Result (Unit {0}) ExchangeFault → Type 0
Hears old new before after (Ok ok) = (heard : View) × Got old new heard × Learns before heard after
Hears old new before after (Err (Merge fault)) = (heard : View) × Got old new heard × IsUnmerged before heard after fault
Hears old new before after (Err (Read fault)) = FailsToRead old new fault × (after ≡ before)
Hears old new before after (Err (Write fault)) = ⊥

-- The leader's frame was written, and then it heard. Where the write was refused, nothing was read, and the node is as
-- it was.
abbrev pub Leads : Stream → Stream → Held → Held → Result (Unit {0}) ExchangeFault → Type 0
Leads old new before after (Err (Write fault)) = FailsToWrite old.writes new.writes before.know fault × LeavesSide old.reads new.reads × (after ≡ before)
Leads old new before after result = Wrote old.writes new.writes before.know × Hears old.reads new.reads before after result

-- The follower heard, and then the frame of all that it knew by then was written. Where it heard nothing, or refused to
-- merge it, nothing was written; where the write was refused, the node keeps what it heard.
abbrev pub Follows : Stream → Stream → Held → Held → Result (Unit {0}) ExchangeFault → Type 0
Follows old new before after (Ok ok) = Hears old.reads new.reads before after (Ok ok) × Wrote old.writes new.writes after.know
Follows old new before after (Err (Write fault)) = Hears old.reads new.reads before after (Ok tt) × FailsToWrite old.writes new.writes after.know fault
Follows old new before after result = Hears old.reads new.reads before after result × LeavesSide old.writes new.writes

-- ---- what is left of the node, whatever the stream tells

-- A refused merge leaves the node as it was, or with more knowledge and no answer.
abbrev pub MergeLeaves : Held → Held → NodeFault → Type 0
MergeLeaves before after Stale = (heard : View) × (after ≡ stale_with_more before heard)
MergeLeaves before after fault = after ≡ before

-- What one who led is left with.
abbrev pub LeadLeaves : Held → Held → Result (Unit {0}) ExchangeFault → Type 0
LeadLeaves before after (Ok ok) = (heard : View) × Learns before heard after
LeadLeaves before after (Err (Merge fault)) = MergeLeaves before after fault
LeadLeaves before after (Err (Read fault)) = after ≡ before
LeadLeaves before after (Err (Write fault)) = after ≡ before

-- What one who followed is left with.
abbrev pub FollowLeaves : Held → Held → Result (Unit {0}) ExchangeFault → Type 0
FollowLeaves before after (Ok ok) = (heard : View) × Learns before heard after
FollowLeaves before after (Err (Merge fault)) = MergeLeaves before after fault
FollowLeaves before after (Err (Read fault)) = after ≡ before
FollowLeaves before after (Err (Write fault)) = (heard : View) × Learns before heard after
