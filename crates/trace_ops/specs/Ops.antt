-- What a rank did, as plain lists, and how that goes on.
use Rattle.std.specs.Prelude.{◌≡◌, ◌<◌, ℕ, ℤ, ◌+◌, true, Option, Some, None, is_some, List, [], ◌∷◌, length, take, drop}
use Rattle.std.specs.List.{AllZip}
use Rattle.mpi_model.specs.declared.call.Call.{Call}
use Rattle.mpi_model.specs.declared.event.OpName.{OpName}
use Rattle.mpi_model.specs.declared.message.Message.{Message}
use Rattle.mpi_model.specs.declared.message.Receive.{Receive}
use Rattle.mpi_model.specs.declared.message.Trust.{Trust}
use Rattle.mpi_model.specs.Trusts.{is_sure, is_void}
use Rattle.trace_ops.specs.declared.entered.Entered.{Entered}
use Rattle.trace_ops.specs.declared.ops.RankOps.TheInside.{Inside}
use Rattle.trace_ops.specs.declared.state.State.{State}
use Rattle.trace_ops.specs.declared.state.State.TheVariants.{Free}
use Rattle.trace_ops.specs.Order.{Has, AreInOrder, ArePosted, AreEntered, AreCalledInOrder}

-- What a rank did: its messages, its receives, its entries into collective calls, the communicators that hold it, its
-- active requests with the names of what was posted, its idle numbers, the names of what was posted by requests which a
-- Cancel names, how it stands, the call in which it waits, and how many foreign calls it entered.
pub record Ops : Type 0 where
  pub sends : List Message
  pub receives : List Receive
  pub rounds : List Entered
  pub comms : List ℕ
  pub active : List (ℤ × OpName)
  pub idle : List ℤ
  pub cancelled : List OpName
  pub state : State
  pub waiting : Option (ℕ × Call)
  pub foreign : ℕ

-- the same, as the code has it
abbrev pub ops_view : Inside → Ops
ops_view o = record {
  sends = o.sends.items;
  receives = o.receives.items;
  rounds = o.rounds.items;
  comms = o.comms.items;
  active = o.active.items;
  idle = o.idle.items;
  cancelled = o.cancelled.items;
  state = o.state;
  waiting = o.waiting;
  foreign = o.foreign;
}

-- of a rank without calls
abbrev pub no_ops : Ops
no_ops = record { sends = []; receives = []; rounds = []; comms = []; active = []; idle = []; cancelled = []; state = Free; waiting = None; foreign = 0 }

-- The messages, the receives, the collective calls and the names of requests that a Cancel names are of this rank, and
-- stand in order of their calls and parts.
pub record IsOwn (rank : ℕ) (ops : Ops) : Type 0 where
  pub sent : (m : Message) → Has ops.sends m → m.name.rank ≡ rank
  pub sent_from : (m : Message) → Has ops.sends m → m.from ≡ rank
  pub posted : (q : Receive) → Has ops.receives q → q.name.rank ≡ rank
  pub posted_at : (q : Receive) → Has ops.receives q → q.at ≡ rank
  pub sends_rise : AreInOrder ops.sends
  pub receives_rise : ArePosted ops.receives
  pub rounds_rise : AreEntered ops.rounds
  pub cancelled_by : (a : OpName) → Has ops.cancelled a → a.rank ≡ rank
  pub cancelled_rise : AreCalledInOrder ops.cancelled

-- the ops of the ranks from `first` on, each its rank's own
abbrev pub AreOwn : ℕ → List Ops → Type 0
AreOwn first [] = Unit {0}
AreOwn first (o ∷ os) = IsOwn first o × AreOwn (first + 1) os

-- What is void stays void: no later call undoes a Cancel of which an outcome told.
abbrev pub StaysVoid : Trust → Trust → Type 0
StaysVoid old new = is_void old ≡ true → is_void new ≡ true

-- What is sure stays sure.
abbrev pub StaysSure : Trust → Trust → Type 0
StaysSure old new = is_sure old ≡ true → is_sure new ≡ true

-- The same message, of which more may be known by now: a Cancel, or what became of it.
pub record SameSend (old new : Message) : Type 0 where
  pub name : new.name ≡ old.name
  pub comm : new.comm ≡ old.comm
  pub from : new.from ≡ old.from
  pub to : new.to ≡ old.to
  pub tag : new.tag ≡ old.tag
  pub mode : new.mode ≡ old.mode
  pub count : new.count ≡ old.count
  pub datatype : new.datatype ≡ old.datatype
  pub void : StaysVoid old.trust new.trust

-- The same receive, of which more may be known by now: its source, the call that completes it, a Cancel, or what became
-- of that. A source that was told stays, and the call that completed it.
pub record TellsMore (old new : Receive) : Type 0 where
  pub name : new.name ≡ old.name
  pub comm : new.comm ≡ old.comm
  pub at : new.at ≡ old.at
  pub tag : new.tag ≡ old.tag
  pub count : new.count ≡ old.count
  pub datatype : new.datatype ≡ old.datatype
  pub source : is_some old.source ≡ true → new.source ≡ old.source
  pub ended : is_some old.ended ≡ true → new.ended ≡ old.ended
  pub void : StaysVoid old.trust new.trust

-- the collective calls that came since
abbrev pub rounds_since : (old new : Ops) → List Entered
rounds_since old new = drop (length old.rounds) new.rounds

-- the messages that came since
abbrev pub sends_since : (old new : Ops) → List Message
sends_since old new = drop (length old.sends) new.sends

-- the receives that came since
abbrev pub receives_since : (old new : Ops) → List Receive
receives_since old new = drop (length old.receives) new.receives

-- All that comes is of later calls than the messages and receives that there were: so no part comes to a Startall.
pub record ComesLater (old new : Ops) : Type 0 where
  pub send_behind_sends : (m n : Message) → Has old.sends m → Has (sends_since old new) n → m.name.call < n.name.call
  pub send_behind_receives : (q : Receive) (n : Message) → Has old.receives q → Has (sends_since old new) n → q.name.call < n.name.call
  pub receive_behind_sends : (m : Message) (r : Receive) → Has old.sends m → Has (receives_since old new) r → m.name.call < r.name.call
  pub receive_behind_receives : (q r : Receive) → Has old.receives q → Has (receives_since old new) r → q.name.call < r.name.call

-- The rank goes on: the old messages and receives are the first of the new ones, of which more may be told, and the old
-- collective calls are the first of the new ones. What comes is of later calls: no collective call comes to be entered
-- before the call that completed a receive, or before a message.
pub record Grows (old new : Ops) : Type 0 where
  pub sends : AllZip SameSend old.sends (take (length old.sends) new.sends)
  pub receives : AllZip TellsMore old.receives (take (length old.receives) new.receives)
  pub rounds : take (length old.rounds) new.rounds ≡ old.rounds
  pub comms : new.comms ≡ old.comms
  pub later : ComesLater old new
  pub behind_ends : (q : Receive) (e : ℕ) (x : Entered) → Has old.receives q → q.ended ≡ Some e → Has (rounds_since old new) x → e < x.call
  pub behind_sends : (m : Message) (x : Entered) → Has old.sends m → Has (rounds_since old new) x → m.name.call < x.call

-- No later Cancel names what is sure: of the messages and receives that there were, each sure one stays sure. It is the
-- premise of what is promised of pairs, and no law of traces.
pub record StaysCertain (old new : Ops) : Type 0 where
  pub sends : AllZip (λ m n. StaysSure m.trust n.trust) old.sends (take (length old.sends) new.sends)
  pub receives : AllZip (λ q r. StaysSure q.trust r.trust) old.receives (take (length old.receives) new.receives)
