-- What a row of the table tells of the other end of its message, and of its round.
use Rattle.std.specs.Prelude.{◌≡◌, ℕ, Option, Some, None, List}
use Rattle.mpi_model.specs.declared.call.Call.{Call}
use Rattle.mpi_model.specs.declared.event.OpName.{OpName}
use Rattle.mpi_model.specs.declared.message.Message.{Message}
use Rattle.mpi_model.specs.declared.message.Receive.{Receive}
use Rattle.trace_ops.specs.Ops.{AreOwn, Ops}
use Rattle.trace_ops.specs.Order.{Has}
use Rattle.trace_pair.specs.Table.{given_by, table_of, taken_by}
use Rattle.trace_pair.specs.declared.pair.Pair.{Pair}
use Rattle.trace_wait.specs.Parts.{receive_of, send_of}
use Rattle.trace_wait.specs.Ranks.{ops_of}
use Rattle.call_table.specs.Slots.{slot_at}
use Rattle.call_table.specs.declared.row.Row.{Row}
use Rattle.call_table.specs.declared.slot.Side.{Side}
use Rattle.call_table.specs.declared.slot.Side.TheVariants.{Send, Receive as Receiving}
use Rattle.call_table.specs.declared.slot.Slot.{Slot}

-- what all ranks did, and the pairs of their messages and receives
pub record Told : Type 0 where
  pub ops : List Ops
  pub pairs : List Pair

-- What the ranks did, and the same in which rounds are looked up.
pub record IsTable (ops entries : List Ops) : Type 0 where
  pub own : AreOwn 0 ops
  pub entered : AreOwn 0 entries
  pub same : entries ≡ ops

-- the operation of a row
abbrev pub name_of : ℕ → ℕ → Slot → OpName
name_of rank call slot = record { rank = rank; call = call; part = slot.part }

-- the message that an operation makes, on a side where it can make one
abbrev pub message_on : Option Side → Ops → OpName → Option Message
message_on (Some Receiving) own name = None
message_on (Some Send) own name = send_of own name
message_on None own name = send_of own name

-- the receive that an operation posts, on a side where it can post one
abbrev pub receive_on : Option Side → Ops → OpName → Option Receive
receive_on (Some Send) own name = None
receive_on (Some Receiving) own name = receive_of own name
receive_on None own name = receive_of own name

-- The other end: of a message the receive that takes it, and of a receive the message. A row makes no message and posts
-- no receive at once, but for a Sendrecv, whose rows are one of each.
abbrev pub partner_of : List Pair → OpName → Option Message → Option Receive → Option OpName
partner_of pairs name (Some m) receive = taken_by pairs name
partner_of pairs name None (Some q) = given_by pairs name
partner_of pairs name None None = None

-- a row with its other end
abbrev pub row_with : List Pair → OpName → Option Message → Option Receive → Row
row_with pairs name message receive = record { name = name; message = message; receive = receive; partner = partner_of pairs name message receive }

-- the row of a call of a rank
abbrev pub row_of : Told → OpName → Option Side → Row
row_of told name side = row_with told.pairs name (message_on side (ops_of told.ops name.rank) name) (receive_on side (ops_of told.ops name.rank) name)

-- the row at a place of a call, from 0
abbrev pub row_at : Told → ℕ → ℕ → Call → ℕ → Row
row_at told rank call what place = row_of told (name_of rank call (slot_at what place)) (slot_at what place).side

-- The pair stands in two rows, one of either side: its message is sent in the one and its receive is posted in the
-- other, and each tells the other end.
pub record HasTwoRows (told : Told) (p : Pair) : Type 0 where
  pub sent : (m : Message) × ((row_of told p.message (Some Send)).message ≡ Some m)
  pub at_message : (row_of told p.message (Some Send)).partner ≡ Some p.receive
  pub received : (q : Receive) × ((row_of told p.receive (Some Receiving)).receive ≡ Some q)
  pub at_receive : (row_of told p.receive (Some Receiving)).partner ≡ Some p.message

-- so does each pair of what the ranks did
abbrev pub HaveTwoRows : Type 0
HaveTwoRows = (ops : List Ops) → AreOwn 0 ops → (p : Pair) → Has (table_of ops).pairs p → HasTwoRows (record { ops = ops; pairs = (table_of ops).pairs }) p
