use Rattle.std.proofs.Common.{◌≡◌, ◌≤◌, ◌-◌, length, take}
use Rattle.trace_pair.specs.Table.{fresh}
use Rattle.trace_pair.proofs.index.forget.Given as goal

abbrev pub invariant-loop-next : goal.invariant-loop-next
invariant-loop-next l = record {
  all : length l.held.items ≡ length l.fn.held.items;
  bound : l.next ≤ length l.held.items;
  forgotten : take l.next l.held.items ≡ fresh l.next;
}

abbrev pub decreases-loop-next : goal.decreases-loop-next
decreases-loop-next l = length l.held.items - l.next
