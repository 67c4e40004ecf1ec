use Rattle.std.proofs.Common.{◌≡◌, ℕ, ◌≤◌, ◌<◌, ◌-◌, true, false, length}
use Rattle.std.specs.Prelude.{slice_index_or}
use Rattle.trace_ops.specs.Order.{Has}
use Rattle.trace_pair.proofs.by_receive.all_places.Given as goal

abbrev pub invariant-loop-next : goal.invariant-loop-next
invariant-loop-next l = record {
  bound : l.next ≤ length l.pairs;
  all : (i : ℕ) → i < l.next → Has l.places.items i;
  seen_there : (i : ℕ) → slice_index_or l.seen.items i false ≡ true → Has l.places.items i;
}

abbrev pub decreases-loop-next : goal.decreases-loop-next
decreases-loop-next l = length l.pairs - l.next
