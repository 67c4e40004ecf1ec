use Rattle.std.proofs.Common.{List}
use Rattle.mpi_model.specs.declared.message.Message.{Message}
use Rattle.mpi_model.specs.declared.message.Receive.{Receive}
use Rattle.trace_pair.specs.Followed.{Indexes}
use Rattle.trace_pair.specs.Pairing.{After}
use Rattle.trace_pair.proofs.together.reserve_ranks.Given as goal

abbrev pub invariant-loop-own : goal.invariant-loop-own
invariant-loop-own l = (after : After) (ms : List Message) (qs : List Receive) → Indexes after ms qs l.initial.state → Indexes after ms qs l.state
