-- The matchings that MPI leaves open, and how a run can go on (MPI 4.0, 3.5: order and progress; 3.8.4: Cancel; 3.9:
-- Startall).
use Rattle.std.specs.Prelude.{◌≡◌, ◌≢◌, Bool, true, false, List, ◌⊎◌}
use Rattle.mpi_model.specs.declared.event.OpName.{OpName}
use Rattle.mpi_model.specs.declared.message.Message.{Message}
use Rattle.mpi_model.specs.declared.message.Receive.{Receive}
use Rattle.mpi_model.specs.Fit.{fits}
use Rattle.trace_ops.specs.Ops.{TellsMore, SameSend, StaysSure}
use Rattle.trace_ops.specs.Order.{Has, posted_before}
use Rattle.trace_pair.specs.Pairing.{After}
use Rattle.trace_pair.specs.Places.{sent_no_later, posted_no_later}
use Rattle.mpi_model.specs.Trusts.{is_doubtful}

-- Some element of the list has P.
abbrev pub SomeOf : {X : Type 0} → List X → (X → Type 0) → Type 0
SomeOf {X} xs P = (x : X) × Has xs x × P x

-- What fits and is no couple was taken: the message by another receive of no later call, the receive by another message
-- of the same sender of no later call, or the receive by a message of another sender.
abbrev pub IsTaken : List Message → List Receive → (Message → Receive → Type 0) → Message → Receive → Type 0
IsTaken ms qs Couple m q =
    SomeOf qs (λ r. (posted_no_later r q ≡ true) × Couple m r)
    ⊎ (SomeOf ms (λ n. (sent_no_later n m ≡ true) × Couple n q)
    ⊎ SomeOf ms (λ n. (n.from ≢ m.from) × Couple n q))

-- A doubtful receive of an earlier call may have taken the message, in a couple or not, and may have given it back
-- behind the receive: so a cancelled Imrecv gives back what its Mprobe took (MPI 4.0, 3.8.4).
abbrev pub MayBeGivenBack : After → List Receive → Message → Receive → Type 0
MayBeGivenBack after qs m q = SomeOf qs (λ p. (is_doubtful p.trust ≡ true) × (posted_before p q ≡ true) × (fits m p ≡ true) × (after m p ≡ false))

-- A legal matching: it is one to one, each couple fits, no message of a couple comes after its receive, and what fits
-- and is no couple was taken, or the message may be given back. A doubtful message or receive that is in no couple may
-- have been cancelled, and owes nothing.
pub record IsLegal (after : After) (ms : List Message) (qs : List Receive) (Couple : Message → Receive → Type 0) : Type 0 where
  pub one_receive : (m : Message) (q r : Receive) → Has ms m → Has qs q → Has qs r → Couple m q → Couple m r → q.name ≡ r.name
  pub one_message : (q : Receive) (m n : Message) → Has qs q → Has ms m → Has ms n → Couple m q → Couple n q → m.name ≡ n.name
  pub fit : (m : Message) (q : Receive) → Has ms m → Has qs q → Couple m q → fits m q ≡ true
  pub not_after : (m : Message) (q : Receive) → Has ms m → Has qs q → Couple m q → after m q ≡ false
  pub progress : (m : Message) (q : Receive) → Has ms m → Has qs q → fits m q ≡ true → (Couple m q → ⊥)
      → (is_doubtful m.trust ≡ true → SomeOf qs (λ r. Couple m r)) → (is_doubtful q.trust ≡ true → SomeOf ms (λ n. Couple n q))
      → IsTaken ms qs Couple m q ⊎ MayBeGivenBack after qs m q

-- The same, with the messages and receives named that stand outside all couples as if they were void: each is doubtful.
pub record IsLegalBeside (after : After) (ms : List Message) (qs : List Receive) (Couple : Message → Receive → Type 0) (Unsent : Message → Type 0) (Unposted : Receive → Type 0) : Type 0 where
  pub unsent : (m : Message) → Has ms m → Unsent m → is_doubtful m.trust ≡ true
  pub unposted : (q : Receive) → Has qs q → Unposted q → is_doubtful q.trust ≡ true
  pub unsent_apart : (m : Message) (q : Receive) → Has ms m → Has qs q → Couple m q → Unsent m → ⊥
  pub unposted_apart : (m : Message) (q : Receive) → Has ms m → Has qs q → Couple m q → Unposted q → ⊥
  pub one_receive : (m : Message) (q r : Receive) → Has ms m → Has qs q → Has qs r → Couple m q → Couple m r → q.name ≡ r.name
  pub one_message : (q : Receive) (m n : Message) → Has qs q → Has ms m → Has ms n → Couple m q → Couple n q → m.name ≡ n.name
  pub fit : (m : Message) (q : Receive) → Has ms m → Has qs q → Couple m q → fits m q ≡ true
  pub not_after : (m : Message) (q : Receive) → Has ms m → Has qs q → Couple m q → after m q ≡ false
  pub progress : (m : Message) (q : Receive) → Has ms m → Has qs q → fits m q ≡ true → (Couple m q → ⊥) → (Unsent m → ⊥) → (Unposted q → ⊥)
      → IsTaken ms qs Couple m q ⊎ MayBeGivenBack after qs m q

-- The relation of calls says that the message and the receive are a couple.
abbrev pub IsCoupledBy : (OpName → OpName → Bool) → Message → Receive → Type 0
IsCoupledBy couple = λ m q. couple m.name q.name ≡ true

-- The message is doubtful, and in no couple.
abbrev pub IsLeftUnsent : List Receive → (OpName → OpName → Bool) → Message → Type 0
IsLeftUnsent qs couple = λ m. (is_doubtful m.trust ≡ true) × (SomeOf qs (λ r. couple m.name r.name ≡ true) → ⊥)

-- The receive is doubtful, and in no couple.
abbrev pub IsLeftUnposted : List Message → (OpName → OpName → Bool) → Receive → Type 0
IsLeftUnposted ms couple = λ q. (is_doubtful q.trust ≡ true) × (SomeOf ms (λ n. couple n.name q.name ≡ true) → ⊥)

-- A continuation: each rank goes on from what it did. Nothing comes in before the calls that there were or beside their
-- parts, a source that was told stays as it is, what is void stays void, what is sure stays sure wherever it stands
-- again (no later Cancel names it), and a message that comes after a receive goes on to do so.
pub record Continues (after : After) (ms : List Message) (qs : List Receive) (more_after : After) (more_ms : List Message) (more_qs : List Receive) : Type 0 where
  pub sent : (m : Message) → Has ms m → SomeOf more_ms (λ n. SameSend m n × StaysSure m.trust n.trust)
  pub none_sent_before : (n m : Message) → Has more_ms n → Has ms m → sent_no_later n m ≡ true → SomeOf ms (λ p. SameSend p n)
  pub posted : (q : Receive) → Has qs q → SomeOf more_qs (λ r. TellsMore q r × StaysSure q.trust r.trust)
  pub none_posted_before : (r q : Receive) → Has more_qs r → Has qs q → posted_no_later r q ≡ true → SomeOf qs (λ p. TellsMore p r × StaysSure p.trust r.trust)
  pub stays_after : (m n : Message) (q r : Receive) → Has ms m → Has more_ms n → SameSend m n → Has qs q → Has more_qs r → TellsMore q r → after m q ≡ true → more_after n r ≡ true
