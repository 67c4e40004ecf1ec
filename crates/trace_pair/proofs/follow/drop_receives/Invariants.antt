use Rattle.std.proofs.Common.{◌≤◌, List, length, take}
use Rattle.mpi_model.specs.declared.message.Message.{Message}
use Rattle.mpi_model.specs.declared.message.Receive.{Receive}
use Rattle.trace_pair.specs.Calls.{between, IsPostingByCall}
use Rattle.trace_pair.specs.Followed.{Indexes}
use Rattle.trace_pair.specs.Pairing.{After}
use Rattle.trace_pair.proofs.follow.drop_receives.Given as goal

abbrev pub invariant-loop-left : goal.invariant-loop-left
invariant-loop-left l = record {
  high : l.left ≤ length l.held;
  low : l.keep ≤ l.left;
  state : (after : After) (before behind : List Receive) (ms : List Message) → IsPostingByCall before behind l.held → Indexes after ms (between before l.held behind) l.initial.state → Indexes after ms (between before (take l.left l.held) behind) l.state;
}

abbrev pub decreases-loop-left : goal.decreases-loop-left
decreases-loop-left l = l.left
