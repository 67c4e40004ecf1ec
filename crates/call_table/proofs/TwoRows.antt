-- Each pair stands in two rows.
use Rattle.std.proofs.Common.{◌≡◌, ◌∙◌, List, Option, Some, None, ap, subst, sym}
use Rattle.mpi_model.specs.declared.event.OpName.{OpName}
use Rattle.mpi_model.specs.declared.message.Message.{Message}
use Rattle.mpi_model.specs.declared.message.Receive.{Receive}
use Rattle.trace_ops.specs.Ops.{AreOwn, Ops}
use Rattle.trace_pair.specs.Searched.{AreFoundByBoth, AreOfOps, ArePairs}
use Rattle.trace_pair.specs.Table.{table_of}
use Rattle.trace_pair.specs.declared.pair.Pair.{Pair}
use Rattle.trace_wait.specs.Parts.{AreMessagesFound, AreReceivesFound, receive_of, send_of}
use Rattle.trace_wait.specs.Ranks.{ops_of}
use Rattle.call_table.specs.Rows.{HaveTwoRows, partner_of}

-- Its message and its receive are found by their names, and each of them finds the other.
pub two_rows : ((held : List Ops) → AreOwn 0 held → ArePairs (table_of held).pairs) → ((held : List Ops) → AreOfOps held (table_of held).pairs)
    → ((pairs : List Pair) → ArePairs pairs → AreFoundByBoth pairs) → ((ops : List Ops) → AreOwn 0 ops → AreMessagesFound ops)
    → ((ops : List Ops) → AreOwn 0 ops → AreReceivesFound ops) → HaveTwoRows
two_rows apart made both messages receives ops own p i =
    let pairs = (table_of ops).pairs in
    let of_ops = made ops p i in
    let twice = both pairs (apart ops own) p i in
    let sent : send_of (ops_of ops p.message.rank) p.message ≡ Some of_ops.message =
    subst (λ (n : OpName). send_of (ops_of ops n.rank) n ≡ Some of_ops.message) (sym of_ops.message_is) (messages ops own of_ops.message of_ops.sent) in
    let received : receive_of (ops_of ops p.receive.rank) p.receive ≡ Some of_ops.receive =
    subst (λ (n : OpName). receive_of (ops_of ops n.rank) n ≡ Some of_ops.receive) (sym of_ops.receive_is) (receives ops own of_ops.receive of_ops.posted) in
    record {
      sent = (of_ops.message, sent);
      at_message = ap (λ (o : Option Message). partner_of pairs p.message o None) sent ∙ twice.at_message;
      received = (of_ops.receive, received);
      at_receive = ap (λ (o : Option Receive). partner_of pairs p.receive None o) received ∙ twice.at_receive;
    }
