use Rattle.std.proofs.Common.{◌≡◌, ◌++◌}
use Rattle.std.specs.VecDeque.Iter.{deque_iter_rest}
use Rattle.trace_world.proofs.inbox.SegmentQueue.try_clone.Given as goal

abbrev pub invariant-loop-segment : goal.invariant-loop-segment
invariant-loop-segment l = l.self ≡ l.copy ++ deque_iter_rest l.segment-iterator
