-- Which messages come after which receives.
--
-- A rank's own message, which it sends once a receive of its own is completed, can't be what that took (MPI 4.0, 3.5: a
-- rank's calls are in order). Neither can a message that its sender sends once it has left a Barrier which the
-- receiver's rank entered with the receive completed: no member leaves a Barrier before all have entered it (6.3).
--
-- Which Barrier is which is told by counting collective communications alone. Another collective call is read only
-- where its parameters are there, so one member's calls may tell of it and another's not; and a count that is too low
-- lets a message come after a receive too soon. Where no round is mismatched both counts say the same.
use Rattle.std.specs.Prelude.{ℕ, suc, Bool, false, ◌&&◌, ◌||◌, ◌==◌, nat_lt, nat_le, cond, Option, Some, None, List, [], ◌∷◌, filter, get_or}
use Rattle.std.specs.List.{list_any}
use Rattle.mpi_model.specs.declared.message.Message.{Message}
use Rattle.trace_ops.specs.Ops.{Ops, no_ops}
use Rattle.trace_ops.specs.Round.{is_barrier, is_communication}
use Rattle.trace_ops.specs.declared.entered.Entered.{Entered}
use Rattle.trace_pair.specs.Pairing.{After}

-- the collective communications among some collective calls
abbrev pub communications : List Entered → List Entered
communications rounds = filter is_communication rounds

-- what a rank did, with its collective communications as its only collective calls
abbrev pub communicating : Ops → Ops
communicating o = record o { rounds = communications o.rounds }

-- how many of these collective calls on the communicator were entered before that call
abbrev pub entered_before : ℕ → ℕ → List Entered → ℕ
entered_before comm call [] = 0
entered_before comm call (x ∷ xs) = cond ((x.comm == comm) && nat_lt x.call call) (suc (entered_before comm call xs)) (entered_before comm call xs)

-- The sender entered this Barrier before the message's call, and before call `ended` the receiver's rank had entered no
-- more collective calls on its communicator than the sender before the Barrier: so it entered the Barrier later than
-- that.
abbrev pub is_left : Ops → Ops → Message → ℕ → Entered → Bool
is_left sender receiver m ended b =
    is_barrier b && nat_lt b.call m.name.call && list_any (λ c. c == b.comm) sender.comms && list_any (λ c. c == b.comm) receiver.comms
    && nat_le (entered_before b.comm ended receiver.rounds) (entered_before b.comm b.call sender.rounds)

-- The receiver's rank sent the message itself, by a call behind call `ended`.
abbrev pub is_own : Message → ℕ → ℕ → Bool
is_own m at ended = (m.from == at) && nat_lt ended m.name.call

-- by the call that completes the receive, where one does
abbrev pub is_after : Ops → Ops → Message → ℕ → Option ℕ → Bool
is_after sender receiver m at None = false
is_after sender receiver m at (Some ended) = is_own m at ended || list_any (is_left (communicating sender) (communicating receiver) m ended) (communications sender.rounds)

-- The message comes after the receive: the receiver's rank sent it itself with the receive completed, or its sender had
-- left a Barrier that the receiver's rank entered with the receive completed.
abbrev pub comes_after : List Ops → After
comes_after held m q = is_after (get_or held m.from no_ops) (get_or held q.at no_ops) m q.at q.ended
