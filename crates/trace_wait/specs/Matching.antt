-- The messages and the receives that are in no pair, and which of them may still be matched.
use Rattle.std.specs.Prelude.{Bool, ◌&&◌, ◌++◌, not, is_none, List, filter}
use Rattle.std.specs.List.{flat_map}
use Rattle.mpi_model.specs.declared.message.Message.{Message}
use Rattle.mpi_model.specs.declared.message.Receive.{Receive}
use Rattle.mpi_model.specs.Fit.{fits}
use Rattle.mpi_model.specs.Trusts.{is_void}
use Rattle.trace_ops.specs.Ops.{Ops}
use Rattle.trace_pair.specs.After.{comes_after}
use Rattle.trace_pair.specs.Ends.{AreLast}
use Rattle.trace_pair.specs.declared.ends.Ends.{Ends}
use Rattle.trace_pair.specs.declared.pair.Pair.{Pair}
use Rattle.trace_pair.specs.Table.{taken_by, given_by}

-- the message is in no pair
abbrev pub is_unpaired_message : List Pair → Message → Bool
is_unpaired_message pairs m = is_none (taken_by pairs m.name)

-- the receive is in no pair
abbrev pub is_unpaired_receive : List Pair → Receive → Bool
is_unpaired_receive pairs q = is_none (given_by pairs q.name)

-- The messages of all ranks that are in no pair, postponed and void ones among them.
abbrev pub unpaired_messages : List Ops → List Pair → List Message
unpaired_messages ops pairs = flat_map (λ o. filter (is_unpaired_message pairs) o.sends) ops

-- The receives of all ranks that are in no pair, open and void ones among them.
abbrev pub unpaired_receives : List Ops → List Pair → List Receive
unpaired_receives ops pairs = flat_map (λ o. filter (is_unpaired_receive pairs) o.receives) ops

-- The receive can take the message: it fits, and the message doesn't come after it. A receive that was completed before
-- the message was sent takes it no more, whatever it took (MPI 4.0, 3.5 and 6.3).
abbrev pub may_take : List Ops → Message → Receive → Bool
may_take ops m q = fits m q && not (comes_after ops m q)

-- the receive was not cancelled, and is in no pair
abbrev pub is_free : List Pair → Receive → Bool
is_free pairs q = not (is_void q.trust) && is_unpaired_receive pairs q

-- such receives of all ranks
abbrev pub free_receives : List Ops → List Pair → List Receive
free_receives ops pairs = flat_map (λ o. filter (is_free pairs) o.receives) ops

-- The ends of such receives among these came to those of others that stand before them.
abbrev pub AsksFree : List Pair → List Receive → (old new : Ends) → Type 0
AsksFree pairs qs old new = (before : List Receive) → AreLast before old → AreLast (before ++ filter (is_free pairs) qs) new
