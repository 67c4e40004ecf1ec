use Rattle.std.proofs.Common.{◌≤◌, ◌-◌, List, length, take}
use Rattle.mpi_model.specs.declared.message.Message.{Message}
use Rattle.mpi_model.specs.declared.message.Receive.{Receive}
use Rattle.trace_pair.specs.After.{comes_after}
use Rattle.trace_pair.specs.Calls.{between, IsPostingByCall}
use Rattle.trace_pair.specs.Followed.{Indexes}
use Rattle.trace_pair.proofs.follow.add_receives.Given as goal

abbrev pub invariant-loop-next : goal.invariant-loop-next
invariant-loop-next l = record {
  high : l.next ≤ length l.held;
  state : (before behind : List Receive) (ms : List Message) → IsPostingByCall before behind l.held → Indexes (comes_after l.reaches) ms (between before (take l.keep l.held) behind) l.initial.state → Indexes (comes_after l.reaches) ms (between before (take l.next l.held) behind) l.state;
}

abbrev pub decreases-loop-next : goal.decreases-loop-next
decreases-loop-next l = length l.held - l.next
