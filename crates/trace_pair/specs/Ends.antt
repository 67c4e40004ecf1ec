-- The ends of receives: at each key the end of the one that ends last.
use Rattle.std.specs.Prelude.{◌≡◌, ◌<◌, ◌≤◌, ℕ, Bool, true, false, nat_lt, nat_le, Option, Some, None, List, ◌||◌, ◌&&◌, not, if◌then◌else◌}
use Rattle.std.specs.BTreeMap.{get}
use Rattle.std.specs.List.{list_any}
use Rattle.mpi_model.specs.declared.message.Message.{Message}
use Rattle.mpi_model.specs.declared.message.Receive.{Receive}
use Rattle.mpi_model.specs.Fit.{envelopes_fit}
use Rattle.trace_ops.specs.Order.{Has}
use Rattle.trace_pair.specs.KeyOrders.{ReceiveKey, receive_key_cmp, receive_key_of}
use Rattle.trace_pair.specs.Pairing.{After}
use Rattle.trace_pair.specs.Queues.{had}
use Rattle.trace_pair.specs.declared.ends.Ends.{Ends}
use Rattle.trace_pair.specs.declared.ranked_ends.RankedEnds.{RankedEnds}

-- A receive that ends with the one call ends no later than one that ends with the other; None is no end at all.
abbrev pub ends_by : Option ℕ → Option ℕ → Bool
ends_by a None = true
ends_by None (Some y) = false
ends_by (Some x) (Some y) = nat_le x y

-- the later of two ends
abbrev pub later_end : Option ℕ → Option ℕ → Option ℕ
later_end None b = None
later_end (Some x) None = None
later_end (Some x) (Some y) = if nat_lt x y then Some y else Some x

-- with one end more, where there may be one
abbrev pub with_end : Option (Option ℕ) → Option ℕ → Option ℕ
with_end None e = e
with_end (Some had) e = later_end had e

-- At the key of each of these receives stands the end of the one that ends last, and at no other key stands any. Their
-- kinds are marked.
pub record AreLast (opened : List Receive) (s : Ends) : Type 0 where
  pub marked : (u : Receive) → Has opened u → had s.kinds u.source u.tag ≡ true
  pub within : (u : Receive) → Has opened u → (e : Option ℕ) × (get receive_key_cmp s.last (receive_key_of u) ≡ Some e) × (ends_by u.ended e ≡ true)
  pub own : (k : ReceiveKey) (e : Option ℕ) → get receive_key_cmp s.last k ≡ Some e → (u : Receive) × Has opened u × (receive_key_of u ≡ k) × (u.ended ≡ e)

-- The same, with a bound: each of these receives is of a rank below it.
pub record AreRanked (opened : List Receive) (s : RankedEnds) : Type 0 where
  pub last : AreLast opened s.ends
  pub below : (u : Receive) → Has opened u → u.at < s.below

-- the ends of no receives of the rank
abbrev pub IsOfNoneAt : RankedEnds → ℕ → Type 0
IsOfNoneAt s rank = (opened : List Receive) → AreRanked opened s → (u : Receive) → Has opened u → u.at ≡ rank → ⊥

-- Of the receives that pass the test and whose envelopes fit the message's, this is the end of the one that ends last.
-- Some receive whose envelope fits ends so.
abbrev pub IsLastAmong : List Receive → Message → (Receive → Bool) → Option (Option ℕ) → Type 0
IsLastAmong xs m p None = (r : Receive) → Has xs r → p r ≡ true → envelopes_fit m r ≡ true → ⊥
IsLastAmong xs m p (Some e) = ((u : Receive) × Has xs u × (envelopes_fit m u ≡ true) × (u.ended ≡ e)) × ((r : Receive) → Has xs r → p r ≡ true → envelopes_fit m r ≡ true → ends_by r.ended e ≡ true)

-- the later of two ends is that of both kinds of receives
abbrev pub IsLaterOf : Option (Option ℕ) → Option (Option ℕ) → Option (Option ℕ) → Type 0
IsLaterOf a b later = (xs : List Receive) (m : Message) (p t : Receive → Bool) → IsLastAmong xs m p a → IsLastAmong xs m t b → IsLastAmong xs m (λ r. p r || t r) later

-- The same of all receives whose envelopes fit.
abbrev pub IsLastFor : List Receive → Message → Option (Option ℕ) → Type 0
IsLastFor xs m None = (r : Receive) → Has xs r → envelopes_fit m r ≡ true → ⊥
IsLastFor xs m (Some e) = ((u : Receive) × Has xs u × (envelopes_fit m u ≡ true) × (u.ended ≡ e)) × ((r : Receive) → Has xs r → envelopes_fit m r ≡ true → ends_by r.ended e ≡ true)

-- Some of the receives may take the message: their envelopes fit, and the message doesn't come after the receive.
abbrev pub may_take : After → List Receive → Message → Bool
may_take after xs m = list_any (λ q. envelopes_fit m q && not (after m q)) xs

-- One of these receives may have taken the message: its envelope fits, and the message doesn't come after it.
abbrev pub SomeHides : After → List Receive → Message → Type 0
SomeHides after xs m = (u : Receive) × Has xs u × (envelopes_fit m u ≡ true) × (after m u ≡ false)

-- None of them may have.
abbrev pub NoneHides : After → List Receive → Message → Type 0
NoneHides after xs m = (u : Receive) → Has xs u → envelopes_fit m u ≡ true → after m u ≡ true

-- The same of those whose calls aren't later than the receive's.
abbrev pub SomeHidesUpTo : After → List Receive → Message → Receive → Type 0
SomeHidesUpTo after xs m q = (u : Receive) × Has xs u × (envelopes_fit m u ≡ true) × (after m u ≡ false) × (u.at ≡ q.at) × (u.name.call ≤ q.name.call)

-- None of those whose calls aren't later than the receive's may have taken the message.
abbrev pub NoneHidesUpTo : After → List Receive → Message → Receive → Type 0
NoneHidesUpTo after xs m q = (u : Receive) → Has xs u → envelopes_fit m u ≡ true → u.at ≡ q.at → u.name.call ≤ q.name.call → after m u ≡ true
