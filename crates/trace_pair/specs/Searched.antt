-- Pairs in which a call is found by halving.
use Rattle.std.specs.Prelude.{◌≡◌, ◌<◌, ℕ, Option, Some, List, slice_get, length, Bool, true, false, slice_index_or}
use Rattle.std.specs.List.{find}
use Rattle.std.specs.List.Sorted.{IsSortedBy}
use Rattle.std.specs.Option.{option_map, option_cmp}
use Rattle.std.specs.Ordering.{is_lt}
use Rattle.mpi_model.specs.declared.event.OpName.{OpName}
use Rattle.mpi_model.specs.declared.message.Message.{Message}
use Rattle.mpi_model.specs.declared.message.Receive.{Receive}
use Rattle.trace_ops.specs.Ops.{Ops}
use Rattle.trace_ops.specs.Order.{Has}
use Rattle.trace_pair.specs.KeyOrders.{name_cmp}
use Rattle.trace_pair.specs.Table.{given_by, receives_of, same_name, sends_of, taken_by}
use Rattle.trace_pair.specs.declared.pair.Pair.{Pair}

-- Pairs in order of the message, no call in two.
pub record ArePairs (pairs : List Pair) : Type 0 where
  pub rise : IsSortedBy (λ a b. is_lt (name_cmp a.message b.message)) pairs
  pub one_message : (p r : Pair) → Has pairs p → Has pairs r → p.message ≡ r.message → p ≡ r
  pub one_receive : (p r : Pair) → Has pairs p → Has pairs r → p.receive ≡ r.receive → p ≡ r

-- The pair is of a message and a receive that the ranks made.
pub record IsOfOps (held : List Ops) (p : Pair) : Type 0 where
  pub message : Message
  pub sent : Has (sends_of held) message
  pub message_is : p.message ≡ message.name
  pub receive : Receive
  pub posted : Has (receives_of held) receive
  pub receive_is : p.receive ≡ receive.name

-- the same of all pairs
abbrev pub AreOfOps : List Ops → List Pair → Type 0
AreOfOps held pairs = (p : Pair) → Has pairs p → IsOfOps held p

-- The message of the pair finds its receive, and the receive finds its message.
pub record IsFoundByBoth (pairs : List Pair) (p : Pair) : Type 0 where
  pub at_message : taken_by pairs p.message ≡ Some p.receive
  pub at_receive : given_by pairs p.receive ≡ Some p.message

-- the same of all pairs
abbrev pub AreFoundByBoth : List Pair → Type 0
AreFoundByBoth pairs = (p : Pair) → Has pairs p → IsFoundByBoth pairs p

-- the pair of the message of that name
abbrev pub pair_named : List Pair → OpName → Option Pair
pair_named pairs name = find (λ p. same_name p.message name) pairs

-- the receive of the pair at a place, if one stands there
abbrev pub receive_at : List Pair → ℕ → Option OpName
receive_at pairs place = option_map (λ p. p.receive) (slice_get pairs place)

-- the message of the pair at a place
abbrev pub message_at : List Pair → ℕ → Option OpName
message_at pairs place = option_map (λ p. p.message) (slice_get pairs place)

-- places in order of the receives that stand there
abbrev pub AreByReceive : List Pair → List ℕ → Type 0
AreByReceive pairs places = IsSortedBy (λ a b. is_lt (option_cmp name_cmp (receive_at pairs a) (receive_at pairs b))) places

-- the place is marked as seen
abbrev pub IsSeen : List Bool → ℕ → Type 0
IsSeen seen place = slice_index_or seen place false ≡ true

-- and the places of all of them
pub record IsSearchable (pairs : List Pair) (places : List ℕ) : Type 0 where
  pub pairs_are : ArePairs pairs
  pub by_receive : AreByReceive pairs places
  pub all : (i : ℕ) → i < length pairs → Has places i
