-- The four sets of an index: messages that wait, free receives, open receives, and couples.
use Rattle.std.specs.Prelude.{◌≡◌, ℕ, Bool, true, cond, ◌||◌, ◌==◌, ◌&&◌, nat_lt, is_some, is_none, Option, Some, None, List, ◌++◌, filter}
use Rattle.mpi_model.specs.declared.event.OpName.{OpName}
use Rattle.mpi_model.specs.declared.message.Message.{Message}
use Rattle.mpi_model.specs.declared.message.Receive.{Receive}
use Rattle.mpi_model.specs.Fit.{envelopes_fit, fits}
use Rattle.mpi_model.specs.Trusts.{is_sure, is_open, is_settled}
use Rattle.trace_ops.specs.Order.{Has, sent_before}
use Rattle.trace_pair.specs.Calls.{is_live, IsOwnMessage, IsOwnReceive, AreApart, ArePostedApart}
use Rattle.trace_pair.specs.Pairing.{After, Paired}
use Rattle.trace_pair.specs.Places.{sent_no_later, posted_no_later, no_later}
use Rattle.trace_pair.specs.declared.pair.Couple.{Couple}

-- no receive takes the message
abbrev pub IsUnpaired : After → List Message → List Receive → Message → Type 0
IsUnpaired after ms qs m = (q : Receive) → Has qs q → Paired after ms qs m q → ⊥

-- the receive takes no message
abbrev pub IsFree : After → List Message → List Receive → Receive → Type 0
IsFree after ms qs q = (m : Message) → Has ms m → Paired after ms qs m q → ⊥

-- a message with the receive that takes it
abbrev pub couple_of : Message → Receive → Couple
couple_of m q = record { message = m; receive = q }

-- In the sets are: messages without a receive, settled receives without a message, open receives, and the pairs, where
-- P says what is paired. What is void is in none of them. Each set in two directions: what is in it is so, and what is
-- so is in it.
pub record AreSets (P : Message → Receive → Type 0) (ms : List Message) (qs : List Receive) (waiting : List Message) (free opened : List Receive) (couples : List Couple) : Type 0 where
  pub senders : (m : Message) → Has ms m → IsOwnMessage m
  pub receivers : (q : Receive) → Has qs q → IsOwnReceive q
  pub messages_apart : AreApart ms
  pub receives_apart : ArePostedApart qs
  pub waits : (m : Message) → Has waiting m → Has ms m × (is_live m.trust ≡ true) × ((q : Receive) → Has qs q → P m q → ⊥)
  pub waits_all : (m : Message) → Has ms m → is_live m.trust ≡ true → ((q : Receive) → Has qs q → P m q → ⊥) → Has waiting m
  pub frees : (q : Receive) → Has free q → Has qs q × (is_settled q ≡ true) × ((m : Message) → Has ms m → P m q → ⊥)
  pub frees_all : (q : Receive) → Has qs q → is_settled q ≡ true → ((m : Message) → Has ms m → P m q → ⊥) → Has free q
  pub opens : (q : Receive) → Has opened q → Has qs q × (is_open q ≡ true)
  pub opens_all : (q : Receive) → Has qs q → is_open q ≡ true → Has opened q
  pub coupled : (c : Couple) → Has couples c → Has ms c.message × Has qs c.receive × P c.message c.receive
  pub coupled_all : (m : Message) (q : Receive) → Has ms m → Has qs q → P m q → Has couples (couple_of m q)

-- the sets of the pairing
abbrev pub IsIndexed : After → List Message → List Receive → List Message → List Receive → List Receive → List Couple → Type 0
IsIndexed after ms qs waiting free opened couples = AreSets (Paired after ms qs) ms qs waiting free opened couples

-- of the pairs those alone that are found so far
abbrev pub Found : After → List Message → List Receive → (Message → Receive → Type 0) → Message → Receive → Type 0
Found after ms qs Done m q = Paired after ms qs m q × Done m q

-- What the index tests for a new message: the receive is the first free one that fits, no waiting message fits it, and
-- the message comes after each open receive of no later call that fits it.
pub record TakesMessage (after : After) (ms : List Message) (qs : List Receive) (m : Message) (q : Receive) : Type 0 where
  pub told : is_some q.source ≡ true
  pub sure_receive : is_sure q.trust ≡ true
  pub sure_message : is_sure m.trust ≡ true
  pub fit : fits m q ≡ true
  pub no_open : (u : Receive) → Has qs u → is_open u ≡ true → posted_no_later u q ≡ true → fits m u ≡ true → after m u ≡ true
  pub is_free : IsFree after ms qs q
  pub first_free : (r : Receive) → Has qs r → is_settled r ≡ true → posted_no_later r q ≡ true → fits m r ≡ true → (n : Message) × Has ms n × Paired after ms qs n r
  pub none_waits : (n : Message) → Has ms n → fits n q ≡ true → (r : Receive) × Has qs r × Paired after ms qs n r

-- And for a receive of a new call: the message is the first waiting one that fits, no open or free receive fits it, and
-- each other receive of the call that fits it took an earlier message.
pub record TakesReceive (after : After) (ms : List Message) (qs more call : List Receive) (m : Message) (q : Receive) : Type 0 where
  pub told : is_some q.source ≡ true
  pub sure_receive : is_sure q.trust ≡ true
  pub sure_message : is_sure m.trust ≡ true
  pub fit : fits m q ≡ true
  pub no_open : (u : Receive) → Has qs u → is_open u ≡ true → fits m u ≡ true → after m u ≡ true
  pub waits : IsUnpaired after ms qs m
  pub first_waiting : (n : Message) → Has ms n → sent_no_later n m ≡ true → fits n q ≡ true → (r : Receive) × Has qs r × Paired after ms qs n r
  pub none_free : (r : Receive) → Has qs r → is_settled r ≡ true → fits m r ≡ true → (n : Message) × Has ms n × Paired after ms qs n r
  pub no_open_part : (u : Receive) → Has call u → is_open u ≡ true → posted_no_later u q ≡ true → fits m u ≡ true → after m u ≡ true
  pub parts : (r : Receive) → Has call r → is_settled r ≡ true → posted_no_later r q ≡ true → fits m r ≡ true → (n : Message) × Has ms n × (sent_before n m ≡ true) × Paired after ms more n r

-- The message that a receive of a new call takes if another part of the call doesn't fit it too: the first waiting one
-- that fits, alone of its call, sure, and behind each open receive that it fits.
pub record OffersMessage (after : After) (ms : List Message) (qs more : List Receive) (q : Receive) (m : Message) : Type 0 where
  pub member : Has ms m
  pub sure : is_sure m.trust ≡ true
  pub fit : fits m q ≡ true
  pub waits : IsUnpaired after ms qs m
  pub first_waiting : (n : Message) → Has ms n → sent_no_later n m ≡ true → fits n q ≡ true → (r : Receive) × Has qs r × Paired after ms qs n r
  pub no_open : (u : Receive) → Has more u → is_open u ≡ true → fits m u ≡ true → after m u ≡ true

-- The receives of a new call stand in the sets, and none of their pairs is found yet.
abbrev pub AwaitReceives : After → List Message → List Receive → List Receive → List Message → List Receive → List Receive → List Couple → Type 0
AwaitReceives after ms qs more waiting free opened couples = AreSets (Found after ms more (λ m r. Has qs r)) ms more waiting free opened couples

-- The message that a receive of a new call is offered, if any: where none is, none is paired with it.
abbrev pub IsOfferedMessage : After → List Message → List Receive → List Receive → Receive → Option Message → Type 0
IsOfferedMessage after ms qs more q None = (m : Message) → Has ms m → Paired after ms more m q → ⊥
IsOfferedMessage after ms qs more q (Some m) = (is_settled q ≡ true) × OffersMessage after ms qs more q m

-- a receive of any tag, or one of a tag
abbrev pub is_of : Bool → Option ℕ → Bool
is_of any_tag tag = cond any_tag (is_none tag) (is_some tag)

-- the receives of any tag, or those of a tag, and those before
abbrev pub with_kind : Bool → List Receive → List Receive → List Receive
with_kind any_tag call done = filter (λ r. is_of any_tag r.tag) call ++ done

-- by rank, then by call, and then by part
abbrev pub name_lt : OpName → OpName → Bool
name_lt a b = nat_lt a.rank b.rank || ((a.rank == b.rank) && (nat_lt a.call b.call || ((a.call == b.call) && nat_lt a.part b.part)))

-- the first message of the set whose envelope fits the receive's
pub record IsFirstMessage (messages : List Message) (q : Receive) (m : Message) : Type 0 where
  pub member : Has messages m
  pub fit : envelopes_fit m q ≡ true
  pub first : (n : Message) → Has messages n → envelopes_fit n q ≡ true → name_lt n.name m.name ≡ true → ⊥

-- the first receive of the set whose envelope fits the message's
pub record IsFirstReceive (receives : List Receive) (m : Message) (q : Receive) : Type 0 where
  pub member : Has receives q
  pub fit : envelopes_fit m q ≡ true
  pub first : (r : Receive) → Has receives r → envelopes_fit m r ≡ true → name_lt r.name q.name ≡ true → ⊥

-- the message of the set whose envelope fits the receive's and that stands in front of all others whose do, alone of
-- its call
pub record IsSoleMessage (messages : List Message) (q : Receive) (m : Message) : Type 0 where
  pub member : Has messages m
  pub fit : envelopes_fit m q ≡ true
  pub sole : (n : Message) → Has messages n → envelopes_fit n q ≡ true → no_later n.name m.name ≡ true → ⊥
