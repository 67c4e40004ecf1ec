use Rattle.std.proofs.Common.{[], ◌≤◌, ◌-◌, List, length, take}
use Rattle.mpi_model.specs.declared.message.Message.{Message}
use Rattle.mpi_model.specs.declared.message.Receive.{Receive}
use Rattle.trace_ops.specs.Order.{ArePosted}
use Rattle.trace_pair.specs.After.{comes_after}
use Rattle.trace_pair.specs.Calls.{ArePostedApart, IsPosting, IsWhole, between}
use Rattle.trace_pair.specs.Settled.{Settles}
use Rattle.trace_pair.proofs.batch.add_receives.Given as goal

abbrev pub invariant-loop-next : goal.invariant-loop-next
invariant-loop-next l = record {
  high : l.next ≤ length l.own;
  whole : ArePosted l.own → IsWhole (λ q. q.name.call) l.own l.next;
  settled : (ms : List Message) (before : List Receive) → IsPosting before [] l.own → ArePostedApart (between before l.own []) → Settles (comes_after l.reaches) ms (between before [] []) l.fn.batch → Settles (comes_after l.reaches) ms (between before (take l.next l.own) []) l.batch;
}

abbrev pub decreases-loop-next : goal.decreases-loop-next
decreases-loop-next l = length l.own - l.next
