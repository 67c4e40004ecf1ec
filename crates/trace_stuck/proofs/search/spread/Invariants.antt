use Rattle.std.proofs.Common.{◌≡◌, ◌+◌, ℕ, Bool, true, length}
use Rattle.trace_stuck.specs.Graph.{edge}
use Rattle.trace_stuck.specs.Search.{Begun, Spreads, bare}
use Rattle.trace_stuck.specs.Release.{among}
use Rattle.trace_stuck.proofs.search.spread.Given as goal

abbrev pub invariant-loop-r : goal.invariant-loop-r
invariant-loop-r l = record {
  len : length l.labels ≡ length l.edges;
  spreads : (starts : ℕ → Bool) → starts l.first ≡ true → Begun (edge l.edges) starts l.first l.fn.labels →
      Spreads (edge l.edges) starts l.first (l.first + 1) (among l.stack.items) l.labels;
}

abbrev pub decreases-loop-r : goal.decreases-loop-r
decreases-loop-r l = bare l.labels + length l.stack.items
