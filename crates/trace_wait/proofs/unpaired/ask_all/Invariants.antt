use Rattle.std.proofs.Common.{List, take, ◌++◌}
use Rattle.std.specs.Prelude.{filter}
use Rattle.mpi_model.specs.declared.message.Receive.{Receive}
use Rattle.trace_pair.specs.Ends.{AreLast}
use Rattle.trace_wait.specs.Matching.{is_free}
use Rattle.trace_wait.proofs.unpaired.ask_all.Given as goal

abbrev pub invariant-loop-q : goal.invariant-loop-q
invariant-loop-q l = (before : List Receive) → AreLast before l.fn.asked → AreLast (before ++ filter (is_free l.pairs) (take l.q-index l.receives)) l.asked
