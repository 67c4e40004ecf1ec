use Rattle.std.proofs.Common.{◌≡◌, ◌+◌, ◌≤◌, ◌++◌, map}
use Rattle.std.specs.Prelude.{vec_len, vec_capacity}
use Rattle.std.specs.VecDeque.{deque_len}
use Rattle.trace_know.specs.declared.cell.Known.TheVariants.{One}
use Rattle.trace_know.specs.Runs.{conflicts_among}
use Rattle.trace_know.proofs.run.give_back.Given as goal

abbrev pub invariant-loop-known : goal.invariant-loop-known
invariant-loop-known l = record {
  events : map (λ e. One e) l.events.items ++ l.cells.items ≡ l.fn.run.cells.items;
  sound : conflicts_among l.cells.items ≡ 0;
  room : vec_len l.events + deque_len l.cells ≤ vec_capacity l.events;
}

abbrev pub decreases-loop-known : goal.decreases-loop-known
decreases-loop-known l = deque_len l.cells
