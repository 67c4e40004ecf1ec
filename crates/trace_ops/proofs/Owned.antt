-- The messages and receives of a rank are its own, and stand in order; so do its requests that a Cancel names.
use Rattle.std.proofs.Common.{◌≡◌, ℕ, zero, suc, map, ◌+◌, Bool, true, false, List, [], ◌∷◌, refl}
use Rattle.std.specs.Prelude.{Option, Some, None, if◌then◌else◌, slice_get}
use Rattle.std.specs.List.{range_with_len}
use Rattle.std.specs.Option.{option_map, option_and_then}
use Rattle.mpi_model.specs.declared.envelope.Envelope.{Envelope}
use Rattle.mpi_model.specs.declared.envelope.Mode.{Mode}
use Rattle.mpi_model.specs.declared.envelope.Mode.TheVariants.{Standard}
use Rattle.mpi_model.specs.declared.envelope.Peer.{Peer}
use Rattle.mpi_model.specs.declared.envelope.Peer.TheVariants.{Any, Null, Rank}
use Rattle.mpi_model.specs.declared.call.Call.{Call}
use Rattle.mpi_model.specs.declared.call.Call.TheVariants.{Send, Isend, Sendrecv, Recv, Irecv, Mprobe, Improbe}
use Rattle.mpi_model.specs.declared.message.Message.{Message}
use Rattle.mpi_model.specs.declared.message.Receive.{Receive}
use Rattle.mpi_model.specs.declared.message.Trust.{Trust}
use Rattle.mpi_model.specs.declared.message.Trust.TheVariants.{Sure}
use Rattle.mpi_model.specs.declared.event.OpName.{OpName}
use Rattle.mpi_model.specs.Layouts.{Parts}
use Rattle.trace_ops.specs.Ended.{ended_of_own, ended_of_post}
use Rattle.trace_ops.specs.Foreign.{Group, group_of, peer_rank}
use Rattle.trace_ops.specs.Source.{told_of_flag, told_of_own, told_of_post}
use Rattle.trace_ops.specs.Trust.{is_cancelled_post, trust_of_probe, trust_of_send, trust_of_receive, cancelled_post, cancelled_of}
use Rattle.trace_ops.specs.Message.{message_in, message_of, message_to, sent_by, sends_of}
use Rattle.trace_ops.specs.Receive.{any_count, has_taken, probe_envelope, receive_in, receive_of, receives_of, taken_by, taken_from}
use Rattle.trace_ops.specs.Order.{Has, AreInOrder, ArePosted, AreCalledInOrder}
use Rattle.trace_ops.specs.Steps.{Placed, Step, name_of, naming, posted_by, starting, steps_from}
use Rattle.mpi_model.specs.declared.event.Event.{Event}
use Rattle.trace_know.specs.View.{View}
use Rattle.trace_know.specs.Prefix.{events_of, is_beyond}
use Rattle.trace_ops.specs.Calls.{calls_of}
use Rattle.trace_ops.specs.Ops.{IsOwn, AreOwn}
use Rattle.trace_ops.specs.RankOps.{ops_by, ops_of}
use Rattle.trace_ops.proofs.Entering.{rounds_rise}
use Rattle.trace_ops.proofs.Rising.{IsOf, Lies, Rise, Sorted, member, sorted, steps_rise}

module _ (layout : Parts) (rank : ℕ) where
  -- ---- messages

  abbrev pub IsSent : Step → Option Message → Type 0
  IsSent s o = IsOf (λ m. m.name) (λ m. m.from) rank s o

  with_own : (g : Group) (s : Step) (mode : Mode) (e : Envelope) (trust : Trust) (to : Option ℕ) → IsSent s (option_map (message_to g (name_of rank s) mode e trust) to)
  with_own g s mode e trust None = tt
  with_own g s mode e trust (Some to) = (refl, refl)

  sent_own : (g : Group) (s t : Step) (later : List Step) (call : Call) → IsSent s (sent_by g (name_of rank s) t later call)
  sent_own g s t later (Send mode e) = with_own g s mode e Sure (option_and_then (slice_get g.members) (peer_rank e.peer))
  sent_own g s t later (Isend mode e) = with_own g s mode e (trust_of_send later (posted_by t)) (option_and_then (slice_get g.members) (peer_rank e.peer))
  sent_own g s t later (Sendrecv x) = with_own g s Standard x.send Sure (option_and_then (slice_get g.members) (peer_rank x.send.peer))
  sent_own g s t later call = tt

  pub message_own : (p : Placed) → IsSent p.step (message_of layout rank p)
  message_own p = by (group_of layout rank (naming p.step) (starting p.step))
    where
      by : (g : Option Group) → IsSent p.step (message_in g (name_of rank p.step) p)
      by None = tt
      by (Some g) = sent_own g p.step p.step p.later (starting p.step)

  pub sent_member : (n i : ℕ) (steps : List Step) → Rise n i steps → (m : Message) → Has (sends_of layout rank steps) m → Lies rank n i m.name × (m.from ≡ rank)
  sent_member = member (λ m. m.name) (λ m. m.from) rank (message_of layout rank) message_own

  in_order : (ms : List Message) → Sorted (λ m. m.name) (λ m. m.from) rank (message_of layout rank) message_own ms → AreInOrder ms
  in_order [] s = tt
  in_order (m ∷ ms) s = (s.0, in_order ms s.1)

  pub sends_rise : (n i : ℕ) (steps : List Step) → Rise n i steps → AreInOrder (sends_of layout rank steps)
  sends_rise n i steps r = in_order (sends_of layout rank steps) (sorted (λ m. m.name) (λ m. m.from) rank (message_of layout rank) message_own n i steps r)

  -- ---- receives

  abbrev pub IsTaken : Step → Option Receive → Type 0
  IsTaken s o = IsOf (λ q. q.name) (λ q. q.at) rank s o

  from_own : (g : Group) (s : Step) (e : Envelope) (trust : Trust) (told ended : Option ℕ) (peer : Peer) → IsTaken s (taken_from g (name_of rank s) e trust told ended peer)
  from_own g s e trust told ended Null = tt
  from_own g s e trust told ended Any = (refl, refl)
  from_own g s e trust told ended (Rank p) = (refl, refl)

  taken_own : (g : Group) (s : Step) (later : List Step) (call : Call) → IsTaken s (taken_by g (name_of rank s) s later call)
  taken_own g s later (Recv e) = from_own g s e Sure (told_of_own g.members s.entry.outs) (ended_of_own s.number s.entry.outs) e.peer
  taken_own g s later (Sendrecv x) = from_own g s x.receive Sure (told_of_own g.members s.entry.outs) (ended_of_own s.number s.entry.outs) x.receive.peer
  taken_own g s later (Irecv e) = from_own g s e (trust_of_receive g.members later (posted_by s)) (told_of_post g.members later (posted_by s)) (ended_of_post later (posted_by s)) e.peer
  taken_own g s later (Mprobe e) = from_own g s (probe_envelope any_count e) (trust_of_probe later) (told_of_own g.members s.entry.outs) (ended_of_own s.number s.entry.outs) e.source
  taken_own g s later (Improbe e) = by (has_taken s.entry.outs)
    where
      by : (b : Bool) → IsTaken s (if b then taken_from g (name_of rank s) (probe_envelope any_count e) (trust_of_probe later) (told_of_flag g.members s.entry.outs) (ended_of_own s.number s.entry.outs) e.source else None)
      by true = from_own g s (probe_envelope any_count e) (trust_of_probe later) (told_of_flag g.members s.entry.outs) (ended_of_own s.number s.entry.outs) e.source
      by false = tt
  taken_own g s later call = tt

  pub receive_own : (p : Placed) → IsTaken p.step (receive_of layout rank p)
  receive_own p = by (group_of layout rank (naming p.step) (starting p.step))
    where
      by : (g : Option Group) → IsTaken p.step (receive_in g (name_of rank p.step) p)
      by None = tt
      by (Some g) = taken_own g p.step p.later (starting p.step)

  pub taken_member : (n i : ℕ) (steps : List Step) → Rise n i steps → (q : Receive) → Has (receives_of layout rank steps) q → Lies rank n i q.name × (q.at ≡ rank)
  taken_member = member (λ q. q.name) (λ q. q.at) rank (receive_of layout rank) receive_own

  are_posted : (qs : List Receive) → Sorted (λ q. q.name) (λ q. q.at) rank (receive_of layout rank) receive_own qs → ArePosted qs
  are_posted [] s = tt
  are_posted (q ∷ qs) s = (s.0, are_posted qs s.1)

  pub receives_rise : (n i : ℕ) (steps : List Step) → Rise n i steps → ArePosted (receives_of layout rank steps)
  receives_rise n i steps r = are_posted (receives_of layout rank steps) (sorted (λ q. q.name) (λ q. q.at) rank (receive_of layout rank) receive_own n i steps r)

-- ---- requests that a Cancel names

module _ (rank : ℕ) where
  abbrev IsNamed : Step → Option OpName → Type 0
  IsNamed s o = IsOf (λ a. a) (λ a. a.rank) rank s o

  name_own : (p : Placed) → IsNamed p.step (cancelled_post rank p)
  name_own p = by (is_cancelled_post (posted_by p.step) p.later)
    where
      by : (b : Bool) → IsNamed p.step (if b then Some (name_of rank p.step) else None)
      by true = (refl, refl)
      by false = tt

  pub cancelled_member : (n i : ℕ) (steps : List Step) → Rise n i steps → (a : OpName) → Has (cancelled_of rank steps) a → Lies rank n i a × (a.rank ≡ rank)
  cancelled_member = member (λ a. a) (λ a. a.rank) rank (cancelled_post rank) name_own

  are_called : (names : List OpName) → Sorted (λ a. a) (λ a. a.rank) rank (cancelled_post rank) name_own names → AreCalledInOrder names
  are_called [] s = tt
  are_called (a ∷ names) s = (s.0, are_called names s.1)

  pub cancelled_rise : (n i : ℕ) (steps : List Step) → Rise n i steps → AreCalledInOrder (cancelled_of rank steps)
  cancelled_rise n i steps r = are_called (cancelled_of rank steps) (sorted (λ a. a) (λ a. a.rank) rank (cancelled_post rank) name_own n i steps r)

-- ---- ops

pub own_of : (layout : Parts) (rank : ℕ) (beyond : Bool) (events : List Event) → IsOwn rank (ops_by layout rank beyond events)
unfolding ops_by
own_of layout rank beyond events =
    let steps = steps_from [] (calls_of events) in
    let rise = steps_rise [] (calls_of events) in
    record {
      sent = λ m h. (sent_member layout rank 0 0 steps rise m h).0.0;
      sent_from = λ m h. (sent_member layout rank 0 0 steps rise m h).1;
      posted = λ q h. (taken_member layout rank 0 0 steps rise q h).0.0;
      posted_at = λ q h. (taken_member layout rank 0 0 steps rise q h).1;
      sends_rise = sends_rise layout rank 0 0 steps rise;
      receives_rise = receives_rise layout rank 0 0 steps rise;
      rounds_rise = rounds_rise layout rank (calls_of events);
      cancelled_by = λ a h. (cancelled_member rank 0 0 steps rise a h).1;
      cancelled_rise = cancelled_rise rank 0 0 steps rise;
    }

-- of all ranks from the first on
pub all_own : (layout : Parts) (view : View) (first n : ℕ) → AreOwn first (map (ops_of layout view) (range_with_len first n))
all_own layout view first zero = tt
all_own layout view first (suc n) = (own_of layout first (is_beyond view first) (events_of view first), all_own layout view (first + 1) n)
