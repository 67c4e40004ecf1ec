-- What the sets of an index keep of the maps that they stand in.
use Rattle.std.specs.Prelude.{◌≡◌, ◌<◌, ℕ, Bool, true, cond, ◌&&◌, ◌||◌, Option, Some, None, is_some, is_none, List}
use Rattle.std.specs.BTreeMap.{BTreeMap, IsOrdered}
use Rattle.std.specs.BTreeSet.{BTreeSet}
use Rattle.mpi_model.specs.declared.message.Message.{Message}
use Rattle.mpi_model.specs.declared.message.Receive.{Receive}
use Rattle.trace_ops.specs.Order.{Has}
use Rattle.trace_pair.specs.Groups.{ArePlaced, StandTwice, members}
use Rattle.trace_pair.specs.Indexed.{name_lt}
use Rattle.trace_pair.specs.KeyOrders.{message_cmp, receive_cmp, Queue, queue_cmp, queue_of, Lane, lane_cmp, lane_of, ReceiveKey, receive_key_cmp, receive_key_of}
use Rattle.mpi_model.specs.Fit.{envelopes_fit}
use Rattle.trace_pair.specs.declared.queues.Kinds.{Kinds}

-- messages by queue, and the same ones by lane
abbrev pub AreQueued : BTreeMap Queue (BTreeSet Message) → BTreeMap Lane (BTreeSet Message) → Type 0
AreQueued tagged lanes = StandTwice queue_cmp lane_cmp message_cmp queue_of lane_of tagged lanes

-- whether receives with such a source and tag are of these kinds
abbrev pub had : Kinds → Option ℕ → Option ℕ → Bool
had kinds source tag = cond (is_some source) (cond (is_some tag) kinds.told kinds.told_any_tag) (cond (is_some tag) kinds.untold kinds.untold_any_tag)

-- and the kind of this source and tag
abbrev pub kinds_with : Kinds → Option ℕ → Option ℕ → Kinds
kinds_with kinds source tag = record {
  told = kinds.told || (is_some source && is_some tag);
  told_any_tag = kinds.told_any_tag || (is_some source && is_none tag);
  untold = kinds.untold || (is_none source && is_some tag);
  untold_any_tag = kinds.untold_any_tag || (is_none source && is_none tag);
}

-- receives by their keys, each of a kind that is marked
pub record AreGrouped (kinds : Kinds) (groups : BTreeMap ReceiveKey (BTreeSet Receive)) : Type 0 where
  pub ordered : IsOrdered receive_key_cmp groups
  pub placed : ArePlaced receive_key_cmp receive_cmp receive_key_of groups
  pub marked : (r : Receive) → Has (members groups) r → had kinds r.source r.tag ≡ true

-- the receives are of ranks below the bound
abbrev pub AreBelow : ℕ → List Receive → Type 0
AreBelow below xs = (r : Receive) → Has xs r → r.at < below

-- both are told, or neither is
abbrev pub alike : Option ℕ → Option ℕ → Bool
alike a b = cond (is_some a) (is_some b) (is_none b)

-- source and tag of the receive are told where these are
abbrev pub of_kind : Option ℕ → Option ℕ → Receive → Bool
of_kind source tag r = alike source r.source && alike tag r.tag

-- the envelope of one of the receives fits the message's
abbrev pub SomeFits : List Receive → Message → Type 0
SomeFits xs m = (r : Receive) × Has xs r × (envelopes_fit m r ≡ true)

-- that of none does
abbrev pub NoneFits : List Receive → Message → Type 0
NoneFits xs m = (r : Receive) → Has xs r → envelopes_fit m r ≡ true → ⊥

-- the envelope of none of the messages fits the receive's
abbrev pub NoneFitsReceive : List Message → Receive → Type 0
NoneFitsReceive ms q = (n : Message) → Has ms n → envelopes_fit n q ≡ true → ⊥

-- the first of the receives that pass the test and whose envelopes fit the message's
abbrev pub IsBestAmong : List Receive → Message → (Receive → Bool) → Option Receive → Type 0
IsBestAmong xs m p None = (r : Receive) → Has xs r → p r ≡ true → envelopes_fit m r ≡ true → ⊥
IsBestAmong xs m p (Some q) = Has xs q × (envelopes_fit m q ≡ true) × ((r : Receive) → Has xs r → p r ≡ true → envelopes_fit m r ≡ true → name_lt r.name q.name ≡ true → ⊥)

-- the earlier of two receives is the first of both kinds
abbrev pub IsEarlierOf : Option Receive → Option Receive → Option Receive → Type 0
IsEarlierOf a b earlier = (xs : List Receive) (m : Message) (p t : Receive → Bool) → IsBestAmong xs m p a → IsBestAmong xs m t b → IsBestAmong xs m (λ r. p r || t r) earlier
