use Rattle.std.proofs.Common.{◌≡◌, ◌≤◌, ◌+◌, ℕ, Bool, length, take}
use Rattle.trace_stuck.specs.Graph.{edge}
use Rattle.trace_stuck.specs.Search.{Spreads, bare, held_with}
use Rattle.trace_stuck.proofs.Spreading.{Reached}
use Rattle.trace_stuck.proofs.search.label_next.Given as goal

abbrev pub invariant-loop-s : goal.invariant-loop-s
invariant-loop-s l = record {
  len : length l.labels ≡ length l.edges;
  fewer : bare l.labels + length l.stack.items ≤ bare l.fn.labels + length l.fn.stack.items;
  spreads : (starts : ℕ → Bool) (done : ℕ) → Spreads (edge l.edges) starts l.first done (held_with l.fn.stack.items l.r) l.fn.labels →
      Spreads (edge l.edges) starts l.first done (held_with l.stack.items l.r) l.labels × Reached l.edges l.first (take l.s-index l.nodes) l.labels;
}
