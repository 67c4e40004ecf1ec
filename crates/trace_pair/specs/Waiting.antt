-- All messages in their order, what takes each, and the places of those that wait.
use Rattle.std.specs.Prelude.{◌≡◌, ◌<◌, ◌==◌, ◌++◌, ℕ, Bool, true, false, cond, Option, Some, None, IfSome, List, [], ◌∷◌, filter, length, map, replicate, slice_get, slice_index_or, slice_set, ◌+◌, if◌then◌else◌}
use Rattle.std.specs.Borrow.{Bor}
use Rattle.std.specs.declared.cmp.Ordering.{Ordering}
use Rattle.std.specs.Ordering.{is_eq}
use Rattle.std.specs.BTreeMap.{is_at}
use Rattle.std.specs.Map.{lookup}
use Rattle.mpi_model.specs.declared.message.Message.{Message}
use Rattle.mpi_model.specs.declared.message.Receive.{Receive}
use Rattle.mpi_model.specs.Trusts.{is_sure}
use Rattle.trace_ops.specs.Order.{Has}
use Rattle.trace_pair.specs.Calls.{is_live, IsOwnMessage}
use Rattle.trace_pair.specs.Coupled.{receive_by}
use Rattle.trace_pair.specs.Indexed.{IsSoleMessage, couple_of}
use Rattle.trace_pair.specs.KeyOrders.{Queue, queue_cmp, queue_of, Lane, lane_cmp, lane_of}
use Rattle.trace_pair.specs.Rising.{AreRising}
use Rattle.trace_pair.specs.declared.pair.Couple.{Couple}
use Rattle.trace_pair.specs.declared.pair.Taker.{Taker}

-- the messages that a list refers to
abbrev pub referred : List (Bor Message) → List Message
referred ms = map (λ m. m.now) ms

-- all messages, and at the place of each what takes it
pub record Takings : Type 0 where
  pub messages : List Message
  pub takers : List (Option Taker)

-- nothing takes any of them
abbrev pub untaken : List Message → Takings
untaken ms = record { messages = ms; takers = replicate (length ms) None }

-- the message at the place is taken
abbrev pub with_taker : Takings → ℕ → Taker → Takings
with_taker t place taker = record t { takers = slice_set t.takers place (Some taker) }

-- the messages that nothing takes
abbrev pub left_in : List Message → List (Option Taker) → List Message
left_in [] takers = []
left_in (m ∷ ms) [] = []
left_in (m ∷ ms) (None ∷ takers) = m ∷ left_in ms takers
left_in (m ∷ ms) (Some t ∷ takers) = left_in ms takers

-- those that aren't void
abbrev pub live : List Message → List Message
live ms = filter (λ m. is_live m.trust) ms

-- The messages that wait: nothing takes them, and they aren't void.
abbrev pub waiting_in : List Message → List (Option Taker) → List Message
waiting_in ms takers = live (left_in ms takers)

-- the messages that are taken, each with what takes it
abbrev pub couples_with : List Message → List (Option Taker) → List Couple
couples_with [] takers = []
couples_with (m ∷ ms) [] = []
couples_with (m ∷ ms) (None ∷ takers) = couples_with ms takers
couples_with (m ∷ ms) (Some t ∷ takers) = couple_of m (receive_by m t) ∷ couples_with ms takers

-- a message stands there that nothing takes
abbrev pub is_waiting : Option (Option Taker) → Bool
is_waiting None = false
is_waiting (Some None) = true
is_waiting (Some (Some t)) = false

-- nothing takes the message at a place
abbrev pub waits_at : List (Option Taker) → ℕ → Bool
waits_at takers place = is_waiting (slice_get takers place)

-- the places from the first on at which nothing takes the message
abbrev pub from_waiting : List (Option Taker) → List ℕ → List ℕ
from_waiting takers [] = []
from_waiting takers (i ∷ places) = cond (waits_at takers i) (i ∷ places) (from_waiting takers places)

-- the message at a place is of that call
abbrev pub is_of_call : List Message → ℕ → ℕ → Bool
is_of_call ms place call = of_call (slice_get ms place)
  where
    of_call : Option Message → Bool
    of_call None = false
    of_call (Some m) = m.name.call == call

-- Among the places in front that hold messages of the call, at one nothing takes the message.
abbrev pub is_followed : List Message → List (Option Taker) → ℕ → List ℕ → Bool
is_followed ms takers call [] = false
is_followed ms takers call (i ∷ places) = cond (is_of_call ms i call) (cond (waits_at takers i) true (is_followed ms takers call places)) false

-- the call of the message at a place
abbrev pub call_at : List Message → ℕ → ℕ
call_at ms place = call_of (slice_get ms place)
  where
    call_of : Option Message → ℕ
    call_of None = 0
    call_of (Some m) = m.name.call

-- the place in front, if at none of those behind it a message of its call waits
abbrev pub sole_of : List Message → List (Option Taker) → List ℕ → Option ℕ
sole_of ms takers [] = None
sole_of ms takers (i ∷ places) = cond (is_followed ms takers (call_at ms i) places) None (Some i)

-- The place in front; where calls may have several parts, if at none of those behind it a message of its call waits.
abbrev pub sole_or_first : Bool → List Message → List (Option Taker) → List ℕ → Option ℕ
sole_or_first plain ms takers places = cond plain (slice_get places 0) (sole_of ms takers places)

-- the places that are listed, none where there is no list
abbrev pub items_of : Option (List ℕ) → List ℕ
items_of None = []
items_of (Some places) = places

-- places by keys
abbrev pub Keyed : Type 0 → Type 0
Keyed K = List (K × List ℕ)

-- the places at a key
abbrev pub places_at : {K : Type 0} → (K → K → Ordering) → Keyed K → K → List ℕ
places_at cmp places k = items_of (lookup (is_at (cmp k)) places)

-- the place stands behind the others at the key
abbrev pub AddsPlace : {K : Type 0} → (K → K → Ordering) → K → ℕ → Keyed K → Keyed K → Type 0
AddsPlace {K} cmp key place old new = (k : K) → places_at cmp new k ≡ (if is_eq (cmp key k) then places_at cmp old k ++ place ∷ [] else places_at cmp old k)

-- at the key those before the first that waits are gone
abbrev pub DropsTaken : {K : Type 0} → (K → K → Ordering) → K → List (Option Taker) → Keyed K → Keyed K → Type 0
DropsTaken {K} cmp key takers old new = (k : K) → places_at cmp new k ≡ (if is_eq (cmp key k) then from_waiting takers (places_at cmp old k) else places_at cmp old k)

-- Each place is below those that follow.
abbrev pub AreRisingPlaces : List ℕ → Type 0
AreRisingPlaces [] = Unit {0}
AreRisingPlaces (i ∷ places) = ((j : ℕ) → Has places j → i < j) × AreRisingPlaces places

-- Each message that waits has its place at its key. What stands at a key are places of its messages, in their order,
-- and of none that is void.
pub record ArePlaces {K : Type 0} (cmp : K → K → Ordering) (key_of : Message → K) (ms : List Message) (takers : List (Option Taker)) (places : Keyed K) : Type 0 where
  pub all : (i : ℕ) (m : Message) → slice_get ms i ≡ Some m → is_live m.trust ≡ true → waits_at takers i ≡ true → Has (places_at cmp places (key_of m)) i
  pub own : (k : K) (i : ℕ) → Has (places_at cmp places k) i → (m : Message) × (slice_get ms i ≡ Some m) × (key_of m ≡ k) × (is_live m.trust ≡ true)
  pub rise : (k : K) → AreRisingPlaces (places_at cmp places k)

-- places by lane, where those that there were are
abbrev pub AreLanesOrNew : List Message → Option (Keyed Lane) → Keyed Lane → Type 0
AreLanesOrNew ms had made = (takers : List (Option Taker)) → IfSome had (ArePlaces lane_cmp lane_of ms takers) → ArePlaces lane_cmp lane_of ms takers made

-- The message is sure, its sender's own, and the first part of its call.
pub record IsPlain (m : Message) : Type 0 where
  pub sure : is_sure m.trust ≡ true
  pub own : IsOwnMessage m
  pub first : m.name.part ≡ 0

-- Each message is. So it is alone of its call.
abbrev pub ArePlain : List Message → Type 0
ArePlain ms = (m : Message) → Has ms m → IsPlain m

-- Places by queue, and where they were made, by lane. Where they are marked as plain, the messages are.
pub record AreTakings (ms : List Message) (marked : Bool) (takers : List (Option Taker)) (queues : Keyed Queue) (lanes : Option (Keyed Lane)) : Type 0 where
  pub rise : AreRising (λ m. m.name) ms
  pub many : length takers ≡ length ms
  pub plain : marked ≡ true → ArePlain ms
  pub queued : ArePlaces queue_cmp queue_of ms takers queues
  pub laned : IfSome lanes (ArePlaces lane_cmp lane_of ms takers)

-- What stands there is the sole message whose envelope fits the receive's; or there is none, where each message is its
-- sender's own.
abbrev pub IsSolePlace : Takings → Receive → Option ℕ → Type 0
IsSolePlace t q None = ((n : Message) → Has (waiting_in t.messages t.takers) n → IsOwnMessage n) → (m : Message) → IsSoleMessage (waiting_in t.messages t.takers) q m → ⊥
IsSolePlace t q (Some place) = (m : Message) × (slice_get t.messages place ≡ Some m) × IsSoleMessage (waiting_in t.messages t.takers) q m

-- what takes the message at a place
abbrev pub taker_in : Option (Option Taker) → Option Taker
taker_in None = None
taker_in (Some taker) = taker

-- what takes the message at a place
abbrev pub taker_at : Takings → ℕ → Option Taker
taker_at t place = taker_in (slice_get t.takers place)

-- this is what takes the messages from a place on, as far as it goes
abbrev pub AreAhead : Takings → ℕ → List (Option Taker) → Type 0
AreAhead t from takers = (i : ℕ) → i < length takers → slice_index_or takers i None ≡ taker_at t (from + i)
