-- A board may be shared by threads, since what it shows may cross them.
use denote.Ref.{NamedLft}
use denote.Param.Send.{IsSend, IsSync, sendable}
use Rattle.std.proofs.Crossing.{crosses}
use Rattle.mpi_model.proofs.layout.Layout.TheSendSync as layout
use Rattle.mpi_model.proofs.event.OpName.TheSendSync as name
use Rattle.trace_know.proofs.knowledge.Knowledge.TheSendSync as knowledge
use Rattle.trace_ops.proofs.state.State.TheSendSync as state
use Rattle.trace_pair.proofs.pair.Pair.TheSendSync as pair
use Rattle.trace_wait.proofs.round.Round.TheSendSync as round
use Rattle.trace_stuck.proofs.condition.Condition.TheLaws.TheKnot as condition
use Rattle.trace_node.specs.contracts.answer.Answer as answer
use Rattle.trace_node.specs.contracts.shared.SharedKnowledge as shared_knowledge
use Rattle.trace_node.specs.contracts.shared.SharedAnswer as shared_answer
use Rattle.trace_crew.specs.contracts.board.shown.Shown as shown
use Rattle.trace_crew.specs.contracts.board.Board as board

-- An answer holds conditions, which lead back to themselves: `condition.crosses` goes through them by recursion.
pub answer_send : IsSend answer.the_row
answer_send = search (condition.crosses, name.the_send, pair.the_send, round.the_send, state.the_send, sendable, crosses) depth 40

answer_sync : IsSync answer.the_row
answer_sync = search (condition.crosses, name.the_sync, pair.the_sync, round.the_sync, state.the_sync, sendable, crosses) depth 40

-- What is shared crosses where it may also be read from both sides.
shared_answer_of : IsSend answer.the_row → IsSync answer.the_row → IsSend shared_answer.the_row
shared_answer_of s t = search (sendable, crosses) depth 24

shared_knowledge_send : IsSend shared_knowledge.the_row
shared_knowledge_send = search (knowledge.the_send, knowledge.the_sync, sendable, crosses) depth 24

shown_of : IsSend shared_answer.the_row → IsSend shared_knowledge.the_row → (κ : NamedLft) → IsSend (shown.the_row κ)
shown_of a k κ = search (layout.the_sync, sendable, crosses) depth 24

pub shown_send : (κ : NamedLft) → IsSend (shown.the_row κ)
shown_send = shown_of (shared_answer_of answer_send answer_sync) shared_knowledge_send

board_of : (κ : NamedLft) → IsSend (shown.the_row κ) → IsSync (board.the_row κ)
board_of κ s = search (sendable, crosses) depth 24

pub board_sync : (κ : NamedLft) → IsSync (board.the_row κ)
board_sync κ = board_of κ (shown_send κ)
