-- Couples that stand by the names of both of their calls. A call is in one of them at most.
use Rattle.std.specs.Prelude.{◌≡◌, cond, Option, Some, None, is_none, List}
use Rattle.std.specs.List.{filter_map}
use Rattle.std.specs.Option.{option_map}
use Rattle.mpi_model.specs.declared.event.OpName.{OpName}
use Rattle.mpi_model.specs.declared.message.Message.{Message}
use Rattle.mpi_model.specs.declared.message.Receive.{Receive}
use Rattle.mpi_model.specs.declared.message.Trust.TheVariants.{Sure}
use Rattle.trace_ops.specs.Order.{Has}
use Rattle.trace_pair.specs.Indexed.{couple_of}
use Rattle.trace_pair.specs.Slots.{Slots, AreSlots, value_of, entries_of}
use Rattle.trace_pair.specs.declared.pair.Couple.{Couple}
use Rattle.trace_pair.specs.declared.pair.Taker.{Taker}

-- what the receive tells beside its message
abbrev pub taker_of : Receive → Taker
taker_of q = record { call = q.name.call; part = q.name.part; datatype = q.datatype; count = q.count; any_tag = is_none q.tag; ended = q.ended }

-- the name of the receive that takes the message
abbrev pub taker_name : Message → Taker → OpName
taker_name m t = record { rank = m.to; call = t.call; part = t.part }

-- and that receive: what the message tells of it, and what it tells beside; it is sure
abbrev pub receive_by : Message → Taker → Receive
receive_by m t = record { name = taker_name m t; comm = m.comm; at = m.to; source = Some m.from; tag = cond t.any_tag None (Some m.tag); count = t.count; trust = Sure; datatype = t.datatype; ended = t.ended }

-- the couple of a message that some receive took
abbrev pub couple_by : Slots Taker → Message → Option Couple
couple_by takers m = option_map (λ t. couple_of m (receive_by m t)) (value_of takers m.name)

-- the couples, in order of the receive
abbrev pub couples_in : Slots Taker → Slots Message → List Couple
couples_in takers taken = filter_map (λ e. couple_by takers e.1) (entries_of taken)

-- Takers stand at the message's name, taken messages at the receive's, and each couple at both.
pub record AreMutual (takers : Slots Taker) (taken : Slots Message) : Type 0 where
  pub takers_rise : AreSlots takers
  pub taken_rise : AreSlots taken
  pub there : (n : OpName) (t : Taker) → value_of takers n ≡ Some t → (m : Message) × (m.name ≡ n) × (value_of taken (taker_name m t) ≡ Some m)
  pub back : (r : OpName) (m : Message) → value_of taken r ≡ Some m → (t : Taker) × (value_of takers m.name ≡ Some t) × (r ≡ taker_name m t)
  pub once : (r s : OpName) (m n : Message) → value_of taken r ≡ Some m → value_of taken s ≡ Some n → m.name ≡ n.name → r ≡ s

-- The couple fits, and neither of its calls is in another.
pub record IsNew (couples : List Couple) (c : Couple) : Type 0 where
  pub fit : c.receive ≡ receive_by c.message (taker_of c.receive)
  pub message : (d : Couple) → Has couples d → d.message.name ≡ c.message.name → ⊥
  pub receive : (d : Couple) → Has couples d → d.receive.name ≡ c.receive.name → ⊥

-- no other message of that name is in a couple
abbrev pub IsOneMessage : List Couple → Message → Type 0
IsOneMessage couples m = (d : Couple) → Has couples d → d.message.name ≡ m.name → d.message ≡ m

-- a couple with a receive of this name has just this receive
abbrev pub IsOneReceive : List Couple → Receive → Type 0
IsOneReceive couples q = (d : Couple) → Has couples d → d.receive.name ≡ q.name → d.receive ≡ q
