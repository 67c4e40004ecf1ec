-- What the two sides of an exchange do and leave, put together of their steps.
use Rattle.std.proofs.Common.{◌≡◌, Result, Ok, Err, refl, sym, subst}
use Rattle.mpi_model.specs.Side.{Side, LeavesSide}
use Rattle.trace_know.specs.View.{View, IsBelow, join}
use Rattle.trace_node.specs.declared.fault.NodeFault.{NodeFault}
use Rattle.trace_node.specs.declared.fault.NodeFault.TheVariants.{Rank, Memory, Stale}
use Rattle.trace_node.specs.Node.{Held}
use Rattle.trace_wire.specs.declared.fault.WireFault.{WireFault}
use Rattle.trace_cluster.specs.declared.exchange.fault.ExchangeFault.{ExchangeFault}
use Rattle.trace_cluster.specs.declared.exchange.fault.ExchangeFault.TheVariants.{Write, Read, Merge}
use Rattle.trace_cluster.specs.Exchange.{Wrote, FailsToWrite, Got, GetsFrame, ExchangesFrames, Learns, IsUnmerged, Merges, Hears, Leads, Follows, MergeLeaves, LeadLeaves, FollowLeaves}
use Rattle.trace_cluster.specs.Stream.{Stream, halves}
use Rattle.trace_cluster.proofs.Passing.{wrote_then, wrote_after, unwritten_after, got_then, gets_after}

-- ---- over a stream

-- a frame was written, and then one was read or none
pub exchanged : (r0 r1 r2 w0 w1 w2 : Side) (know : View) (r : Result View ExchangeFault) →
    Wrote w0 w1 know → LeavesSide r0 r1 → GetsFrame r1 r2 r → LeavesSide w1 w2 → ExchangesFrames (halves r0 w0) (halves r2 w2) know r
exchanged r0 r1 r2 w0 w1 w2 know (Ok heard) wrote reads gets writes =
    (wrote_then w0 w1 w2 know wrote writes, gets_after r0 r1 r2 (Ok heard) reads gets)
exchanged r0 r1 r2 w0 w1 w2 know (Err (Read fault)) wrote reads gets writes =
    (wrote_then w0 w1 w2 know wrote writes, gets_after r0 r1 r2 (Err (Read fault)) reads gets)
exchanged r0 r1 r2 w0 w1 w2 know (Err (Write fault)) wrote reads gets writes = absurd gets
exchanged r0 r1 r2 w0 w1 w2 know (Err (Merge fault)) wrote reads gets writes = absurd gets

-- frames were exchanged, and then the node merged what it heard
pub led : (old new : Stream) (before after : Held) (heard : View) (r : Result (Unit {0}) ExchangeFault) →
    ExchangesFrames old new before.know (Ok heard) → Merges before heard after r → Leads old new before after r
led old new before after heard (Ok ok) frames merges = (frames.0, (heard, frames.1, merges))
led old new before after heard (Err (Merge fault)) frames merges = (frames.0, (heard, frames.1, merges))
led old new before after heard (Err (Read fault)) frames merges = absurd merges
led old new before after heard (Err (Write fault)) frames merges = absurd merges

-- they were not
pub unled : (old new : Stream) (node : Held) (fault : ExchangeFault) → ExchangesFrames old new node.know (Err fault) → Leads old new node node (Err fault)
unled old new node (Write fault) frames = (frames.0, frames.1, refl)
unled old new node (Read fault) frames = (frames.0, (frames.1, refl))
unled old new node (Merge fault) frames = absurd frames.1

-- a frame was read, and then the node merged what it tells
pub heard_one : (old new : Side) (before after : Held) (heard : View) (r : Result (Unit {0}) ExchangeFault) →
    Got old new heard → Merges before heard after r → Hears old new before after r
heard_one old new before after heard (Ok ok) got merges = (heard, got, merges)
heard_one old new before after heard (Err (Merge fault)) got merges = (heard, got, merges)
heard_one old new before after heard (Err (Read fault)) got merges = absurd merges
heard_one old new before after heard (Err (Write fault)) got merges = absurd merges

-- the node heard nothing, or refused to merge it
pub unheard : (r0 r1 w0 w1 : Side) (before after : Held) (fault : ExchangeFault) →
    Hears r0 r1 before after (Err fault) → LeavesSide w0 w1 → Follows (halves r0 w0) (halves r1 w1) before after (Err fault)
unheard r0 r1 w0 w1 before after (Merge fault) hears writes = (hears, writes)
unheard r0 r1 w0 w1 before after (Read fault) hears writes = (hears, writes)
unheard r0 r1 w0 w1 before after (Write fault) hears writes = absurd hears

-- the node heard, and then its frame was written
pub followed : (r0 r1 r2 w0 w1 w2 : Side) (before after : Held) (ok : Unit {0}) →
    Hears r0 r1 before after (Ok ok) → LeavesSide w0 w1 → Wrote w1 w2 after.know → LeavesSide r1 r2 → Follows (halves r0 w0) (halves r2 w2) before after (Ok ok)
followed r0 r1 r2 w0 w1 w2 before after ok hears writes wrote reads =
    ((hears.0, got_then r0 r1 r2 hears.0 hears.1 reads, hears.2), wrote_after w0 w1 w2 after.know writes wrote)

-- the node heard, and then its frame was not written
pub untold : (r0 r1 r2 w0 w1 w2 : Side) (before after : Held) (ok : Unit {0}) (fault : WireFault) →
    Hears r0 r1 before after (Ok ok) → LeavesSide w0 w1 → FailsToWrite w1 w2 after.know fault → LeavesSide r1 r2 →
    Follows (halves r0 w0) (halves r2 w2) before after (Err (Write fault))
untold r0 r1 r2 w0 w1 w2 before after ok fault hears writes why reads =
    ((hears.0, got_then r0 r1 r2 hears.0 hears.1 reads, hears.2), unwritten_after w0 w1 w2 after.know fault writes why)

-- ---- of a node

merge_leaves : (before after : Held) (heard : View) (fault : NodeFault) → IsUnmerged before heard after fault → MergeLeaves before after fault
merge_leaves before after heard Rank why = why.1
merge_leaves before after heard Memory why = why.1
merge_leaves before after heard Stale why = (heard, why.1)

pub lead_leaves : (before after : Held) (heard : View) (r : Result (Unit {0}) ExchangeFault) → Merges before heard after r → LeadLeaves before after r
lead_leaves before after heard (Ok ok) merges = (heard, merges)
lead_leaves before after heard (Err (Merge fault)) merges = merge_leaves before after heard fault merges
lead_leaves before after heard (Err (Read fault)) merges = absurd merges
lead_leaves before after heard (Err (Write fault)) merges = absurd merges

pub unheard_leaves : (old new : Side) (before after : Held) (fault : ExchangeFault) → Hears old new before after (Err fault) → FollowLeaves before after (Err fault)
unheard_leaves old new before after (Merge fault) hears = merge_leaves before after hears.0 fault hears.2
unheard_leaves old new before after (Read fault) hears = hears.1
unheard_leaves old new before after (Write fault) hears = absurd hears

-- ---- what a node knows grows

-- the answer of one who was refused nothing, and of one who was
abbrev pub heard_all : Unit {0} → Result (Unit {0}) ExchangeFault
heard_all ok = Ok ok

abbrev pub refused : ExchangeFault → Result (Unit {0}) ExchangeFault
refused fault = Err fault

module _ (above : (a b : View) → IsBelow a (join a b)) (same : (a : View) → join a a ≡ a) where
  unchanged : (before after : Held) → after ≡ before → IsBelow before.know after.know
  unchanged before after e = subst (λ (h : Held). IsBelow before.know h.know) (sym e) (subst (λ (v : View). IsBelow before.know v) (same before.know) (above before.know before.know))

  merged : (before after : Held) (fault : NodeFault) → MergeLeaves before after fault → IsBelow before.know after.know
  merged before after Rank left = unchanged before after left
  merged before after Memory left = unchanged before after left
  merged before after Stale left = subst (λ (h : Held). IsBelow before.know h.know) (sym left.1) (above before.know left.0)

  learned : (before after : Held) (heard : View) → Learns before heard after → IsBelow before.know after.know
  learned before after heard learns = subst (λ (h : Held). IsBelow before.know h.know) (sym learns.1) (above before.know heard)

  pub follower_grows : (before after : Held) (r : Result (Unit {0}) ExchangeFault) → FollowLeaves before after r → IsBelow before.know after.know
  follower_grows before after (Ok ok) left = learned before after left.0 left.1
  follower_grows before after (Err (Merge fault)) left = merged before after fault left
  follower_grows before after (Err (Read fault)) left = unchanged before after left
  follower_grows before after (Err (Write fault)) left = learned before after left.0 left.1
