-- Calls that come to the end of their rank, or go from there.
use Rattle.std.specs.Prelude.{◌≡◌, ℕ, Bool, true, not, List, [], ◌∷◌, ◌++◌, ◌⊎◌, take, drop}
use Rattle.mpi_model.specs.declared.message.Message.{Message}
use Rattle.mpi_model.specs.declared.message.Receive.{Receive}
use Rattle.mpi_model.specs.declared.message.Trust.{Trust}
use Rattle.mpi_model.specs.Trusts.{is_void}
use Rattle.trace_ops.specs.Ops.{Ops}
use Rattle.trace_ops.specs.Order.{Has, sent_before, posted_before, ArePosted}
use Rattle.trace_pair.specs.Places.{sent_at, posted_at}

-- it isn't known to be cancelled
abbrev pub is_live : Trust → Bool
is_live t = not (is_void t)

-- the call that sent the message is one of its sender's
abbrev pub IsOwnMessage : Message → Type 0
IsOwnMessage m = m.name.rank ≡ m.from

-- the call that posted the receive is one of its rank's
abbrev pub IsOwnReceive : Receive → Type 0
IsOwnReceive q = q.name.rank ≡ q.at

-- all are parts of one call
abbrev pub IsOneCall : {X : Type 0} → (X → ℕ) → List X → Type 0
IsOneCall {X} call xs = (x y : X) → Has xs x → Has xs y → call y ≡ call x

-- no call has parts on both sides of the place
abbrev pub IsWhole : {X : Type 0} → (X → ℕ) → List X → ℕ → Type 0
IsWhole {X} call xs place = (x y : X) → Has (take place xs) x → Has (drop place xs) y → call x ≡ call y → ⊥

-- no element stands twice
abbrev pub AreDistinct : {X : Type 0} → List X → Type 0
AreDistinct [] = Unit {0}
AreDistinct {X} (x ∷ xs) = (Has xs x → ⊥) × AreDistinct xs

-- `more` has the message besides those of `ms`, and behind those of its sender
pub record AddsMessage (ms more : List Message) (m : Message) : Type 0 where
  pub own : IsOwnMessage m
  pub old : (n : Message) → Has ms n → Has more n
  pub new : Has more m
  pub cases : (n : Message) → Has more n → Has ms n ⊎ (n ≡ m)
  pub behind : (n : Message) → Has ms n → n.from ≡ m.from → sent_before n m ≡ true

-- `more` has the receives of one call besides those of `qs`, and behind those of their rank
pub record AddsReceives (qs more call : List Receive) : Type 0 where
  pub own : (q : Receive) → Has call q → IsOwnReceive q
  pub old : (r : Receive) → Has qs r → Has more r
  pub new : (r : Receive) → Has call r → Has more r
  pub cases : (r : Receive) → Has more r → Has qs r ⊎ Has call r
  pub behind : (r q : Receive) → Has qs r → Has call q → r.at ≡ q.at → posted_before r q ≡ true
  pub one_call : (q r : Receive) → Has call q → Has call r → r.name.call ≡ q.name.call
  pub distinct : AreDistinct call

-- messages that were sent at one place are one message
abbrev pub AreApart : List Message → Type 0
AreApart ms = (m n : Message) → Has ms m → Has ms n → sent_at m ≡ sent_at n → m ≡ n

-- receives that were posted at one place are one receive
abbrev pub ArePostedApart : List Receive → Type 0
ArePostedApart qs = (q r : Receive) → Has qs q → Has qs r → posted_at q ≡ posted_at r → q ≡ r

-- the calls of one rank among those of the others
abbrev pub between : {X : Type 0} → List X → List X → List X → List X
between before held after = before ++ held ++ after

-- each message is of an earlier call than those that follow, of one rank: no call has two of them
abbrev pub AreSentByCall : List Message → Type 0
AreSentByCall [] = Unit {0}
AreSentByCall (m ∷ ms) = ((n : Message) → Has ms n → sent_before m n ≡ true) × AreSentByCall ms

-- each receive is of an earlier call than those that follow, of one rank
abbrev pub ArePostedByCall : List Receive → Type 0
ArePostedByCall [] = Unit {0}
ArePostedByCall (q ∷ qs) = ((r : Receive) → Has qs r → posted_before q r ≡ true) × ArePostedByCall qs

-- each call of a rank has one part
pub record IsSingle (ops : Ops) : Type 0 where
  pub sends : AreSentByCall ops.sends
  pub receives : ArePostedByCall ops.receives

-- no two messages are parts of one call
abbrev pub AreSentAlone : List Message → Type 0
AreSentAlone ms = (m n : Message) → Has ms m → Has ms n → m.from ≡ n.from → m.name.call ≡ n.name.call → m ≡ n

-- no two receives are parts of one call
abbrev pub ArePostedAlone : List Receive → Type 0
ArePostedAlone qs = (q r : Receive) → Has qs q → Has qs r → q.at ≡ r.at → q.name.call ≡ r.name.call → q ≡ r

-- the messages of one rank call by call, the others being of other ranks
pub record IsSequence (before after held : List Message) : Type 0 where
  pub own : (m : Message) → Has held m → IsOwnMessage m
  pub order : AreSentByCall held
  pub apart_before : (n m : Message) → Has before n → Has held m → n.from ≡ m.from → ⊥
  pub apart_after : (n m : Message) → Has after n → Has held m → n.from ≡ m.from → ⊥

-- the receives of one rank call by call, the others being of other ranks
pub record IsPostingByCall (before after held : List Receive) : Type 0 where
  pub own : (q : Receive) → Has held q → IsOwnReceive q
  pub order : ArePostedByCall held
  pub apart_before : (r q : Receive) → Has before r → Has held q → r.at ≡ q.at → ⊥
  pub apart_after : (r q : Receive) → Has after r → Has held q → r.at ≡ q.at → ⊥

-- the same where a call may have several parts
pub record IsPosting (before after held : List Receive) : Type 0 where
  pub own : (q : Receive) → Has held q → IsOwnReceive q
  pub order : ArePosted held
  pub apart_before : (r q : Receive) → Has before r → Has held q → r.at ≡ q.at → ⊥
  pub apart_after : (r q : Receive) → Has after r → Has held q → r.at ≡ q.at → ⊥
