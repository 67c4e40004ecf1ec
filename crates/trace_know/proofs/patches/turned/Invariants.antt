use Rattle.std.proofs.Common.{◌≡◌, ◌+◌, ◌≤◌, ◌++◌, length, reverse}
use Rattle.trace_know.proofs.patches.turned.Given as goal

abbrev pub invariant-loop-run : goal.invariant-loop-run
invariant-loop-run l = record {
  items : l.runs.items ++ reverse l.falling.items ≡ reverse l.fn.falling.items;
  room : length l.runs.items + length l.falling.items ≤ l.runs.room;
}

abbrev pub decreases-loop-run : goal.decreases-loop-run
decreases-loop-run l = length l.falling.items
