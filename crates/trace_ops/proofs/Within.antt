-- What steps tell stands within their calls.
use Rattle.std.proofs.Common.{◌≡◌, ℕ, ◌<◌, Bool, true, false, List, [], ◌∷◌, inl, inr, sym, ap, subst, arith}
use Rattle.std.specs.Prelude.{ℤ, Option, Some, None, if◌then◌else◌}
use Rattle.std.specs.List.{filter_map, cons_option}
use Rattle.mpi_model.specs.declared.call.Call.{Call}
use Rattle.mpi_model.specs.declared.call.Call.TheVariants.{Recv, Irecv, Sendrecv, Mprobe, Improbe}
use Rattle.mpi_model.specs.declared.envelope.Envelope.{Envelope}
use Rattle.mpi_model.specs.declared.envelope.Peer.{Peer}
use Rattle.mpi_model.specs.declared.envelope.Peer.TheVariants.{Any, Null, Rank}
use Rattle.mpi_model.specs.declared.event.OpName.{OpName}
use Rattle.mpi_model.specs.declared.message.Message.{Message}
use Rattle.mpi_model.specs.declared.message.Receive.{Receive}
use Rattle.mpi_model.specs.declared.message.Trust.{Trust}
use Rattle.mpi_model.specs.declared.message.Trust.TheVariants.{Sure}
use Rattle.mpi_model.specs.declared.outcome.Outs.{Outs}
use Rattle.mpi_model.specs.Layouts.{Parts}
use Rattle.trace_ops.specs.Ended.{ended_by, ended_of_own, ended_of_post}
use Rattle.trace_ops.specs.Foreign.{Group, group_of}
use Rattle.trace_ops.specs.Message.{message_of, sends_of}
use Rattle.trace_ops.specs.Order.{Has}
use Rattle.trace_ops.specs.Receive.{any_count, has_taken, probe_envelope, receive_in, receive_of, receives_of, taken_by, taken_from}
use Rattle.trace_ops.specs.Request.{is_completing}
use Rattle.trace_ops.specs.Source.{told_of_flag, told_of_own, told_of_post}
use Rattle.trace_ops.specs.Steps.{Placed, Step, name_of, naming, placed, posted_by, starting, touches}
use Rattle.trace_ops.specs.Trust.{trust_of_probe, trust_of_receive}
use Rattle.trace_ops.proofs.Going.{AreBelow}
use Rattle.trace_ops.proofs.Growing.{GoesFrom}
use Rattle.trace_ops.proofs.Owned.{message_own, receive_own}
use Rattle.trace_ops.proofs.Rising.{IsOf}

pub below_of : (bound : ℕ) (old new : List Step) → GoesFrom bound old new → AreBelow bound old
below_of bound [] new g = tt
below_of bound (s ∷ old) [] g = absurd g
below_of bound (s ∷ old) (t ∷ new) g = (g.0, below_of bound old new g.2)

-- an item, where there is one, is so
abbrev pub IsSo : {Y : Type 0} → (Y → Type 0) → Option Y → Type 0
IsSo P None = Unit {0}
IsSo P (Some y) = P y

module _ {Y : Type 0} (P : Y → Type 0) (f : Placed → Option Y) (bound : ℕ) (own : (p : Placed) → p.step.number < bound → AreBelow bound p.later → IsSo P (f p)) where
  pub within : (steps : List Step) → AreBelow bound steps → (y : Y) → Has (filter_map f (placed steps)) y → P y
  within [] b y h = absurd h
  within (s ∷ later) b y h = by (f (record { step = s; later = later })) (own (record { step = s; later = later }) b.0 b.1) h (within later b.1 y)
    where
      by : (o : Option Y) → IsSo P o → Has (cons_option o (filter_map f (placed later))) y → (Has (filter_map f (placed later)) y → P y) → P y
      by None o h more = more h
      by (Some z) o (inl e) more = subst (λ (v : Y). P v) (sym e) o
      by (Some z) o (inr h) more = more h

named_within : {Y : Type 0} (name : Y → OpName) (at : Y → ℕ) (rank bound : ℕ) (s : Step) (o : Option Y) → IsOf name at rank s o → s.number < bound → IsSo (λ y. (name y).call < bound) o
named_within name at rank bound s None o lt = tt
named_within name at rank bound s (Some y) o lt = let e : (name y).call ≡ s.number = ap (λ (a : OpName). a.call) o.0 in omega (arith, lt, e)

-- the call that completes it, where one does, is below the bound
abbrev pub EndsWithin : ℕ → Option ℕ → Type 0
EndsWithin bound ended = (e : ℕ) → ended ≡ Some e → e < bound

no_end : (bound : ℕ) → EndsWithin bound None
no_end bound e h = absurd (cc)

one_end : (n bound : ℕ) → n < bound → EndsWithin bound (Some n)
one_end n bound lt e h = let k : n ≡ e = cc in omega (arith, lt, k)

ends_within : (bound : ℕ) (x : ℤ) (later : List Step) → AreBelow bound later → EndsWithin bound (ended_by x later)
ends_within bound x [] b = no_end bound
ends_within bound x (s ∷ later) b = by (touches x s) (is_completing s.entry) (ends_within bound x later b.1)
  where
    by : (t d : Bool) → EndsWithin bound (ended_by x later) → EndsWithin bound (if t then (if d then Some s.number else None) else ended_by x later)
    by true true more = one_end s.number bound b.0
    by true false more = no_end bound
    by false d more = more

post_ends_within : (bound : ℕ) (later : List Step) (p : Option ℤ) → AreBelow bound later → EndsWithin bound (ended_of_post later p)
post_ends_within bound later None b = no_end bound
post_ends_within bound later (Some x) b = ends_within bound x later b

own_ends_within : (n bound : ℕ) (outs : Option Outs) → n < bound → EndsWithin bound (ended_of_own n outs)
own_ends_within n bound None lt = no_end bound
own_ends_within n bound (Some outs) lt = one_end n bound lt

module _ (layout : Parts) (rank bound : ℕ) where
  abbrev ReceiveWithin : Receive → Type 0
  ReceiveWithin q = EndsWithin bound q.ended

  from_within : (g : Group) (name : OpName) (e : Envelope) (trust : Trust) (told ended : Option ℕ) (peer : Peer) → EndsWithin bound ended → IsSo ReceiveWithin (taken_from g name e trust told ended peer)
  from_within g name e trust told ended Null h = tt
  from_within g name e trust told ended Any h = h
  from_within g name e trust told ended (Rank p) h = h

  taken_within : (g : Group) (s : Step) (later : List Step) (call : Call) → s.number < bound → AreBelow bound later → IsSo ReceiveWithin (taken_by g (name_of rank s) s later call)
  taken_within g s later (Recv e) lt b = from_within g (name_of rank s) e Sure (told_of_own g.members s.entry.outs) (ended_of_own s.number s.entry.outs) e.peer (own_ends_within s.number bound s.entry.outs lt)
  taken_within g s later (Sendrecv x) lt b = from_within g (name_of rank s) x.receive Sure (told_of_own g.members s.entry.outs) (ended_of_own s.number s.entry.outs) x.receive.peer (own_ends_within s.number bound s.entry.outs lt)
  taken_within g s later (Irecv e) lt b =
      from_within g (name_of rank s) e (trust_of_receive g.members later (posted_by s)) (told_of_post g.members later (posted_by s)) (ended_of_post later (posted_by s)) e.peer (post_ends_within bound later (posted_by s) b)
  taken_within g s later (Mprobe e) lt b =
      from_within g (name_of rank s) (probe_envelope any_count e) (trust_of_probe later) (told_of_own g.members s.entry.outs) (ended_of_own s.number s.entry.outs) e.source (own_ends_within s.number bound s.entry.outs lt)
  taken_within g s later (Improbe e) lt b = by (has_taken s.entry.outs)
    where
      by : (d : Bool) → IsSo ReceiveWithin (if d then taken_from g (name_of rank s) (probe_envelope any_count e) (trust_of_probe later) (told_of_flag g.members s.entry.outs) (ended_of_own s.number s.entry.outs) e.source else None)
      by true = from_within g (name_of rank s) (probe_envelope any_count e) (trust_of_probe later) (told_of_flag g.members s.entry.outs) (ended_of_own s.number s.entry.outs) e.source (own_ends_within s.number bound s.entry.outs lt)
      by false = tt
  taken_within g s later call lt b = tt

  receive_within : (p : Placed) → p.step.number < bound → AreBelow bound p.later → IsSo ReceiveWithin (receive_of layout rank p)
  receive_within p lt b = by (group_of layout rank (naming p.step) (starting p.step))
    where
      by : (g : Option Group) → IsSo ReceiveWithin (receive_in g (name_of rank p.step) p)
      by None = tt
      by (Some g) = taken_within g p.step p.later (starting p.step) lt b

  -- a receive is completed by one of the calls
  pub received_within : (steps : List Step) → AreBelow bound steps → (q : Receive) → Has (receives_of layout rank steps) q → (e : ℕ) → q.ended ≡ Some e → e < bound
  received_within = within ReceiveWithin (receive_of layout rank) bound receive_within

  -- a message is sent by one of them
  pub sent_within : (steps : List Step) → AreBelow bound steps → (m : Message) → Has (sends_of layout rank steps) m → m.name.call < bound
  sent_within = within (λ m. m.name.call < bound) (message_of layout rank) bound (λ p lt b. named_within (λ m. m.name) (λ m. m.from) rank bound p.step (message_of layout rank p) (message_own layout rank p) lt)

  -- a receive is posted by one of them
  pub posted_within : (steps : List Step) → AreBelow bound steps → (q : Receive) → Has (receives_of layout rank steps) q → q.name.call < bound
  posted_within = within (λ q. q.name.call < bound) (receive_of layout rank) bound (λ p lt b. named_within (λ q. q.name) (λ q. q.at) rank bound p.step (receive_of layout rank p) (receive_own layout rank p) lt)
