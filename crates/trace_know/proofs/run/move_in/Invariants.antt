use Rattle.std.proofs.Common.{◌≡◌, ◌+◌, ◌≤◌, ◌++◌, map}
use Rattle.std.specs.Prelude.{vec_len, vec_capacity}
use Rattle.std.specs.VecDeque.{deque_len, deque_capacity}
use Rattle.trace_know.specs.declared.cell.Known.TheVariants.{One}
use Rattle.trace_know.specs.Runs.{sound_among}
use Rattle.trace_know.proofs.run.move_in.Given as goal

abbrev pub invariant-loop-event : goal.invariant-loop-event
invariant-loop-event l = record {
  cells : map (λ e. One e) l.events.items ++ l.cells.items ≡ map (λ e. One e) l.fn.events.items;
  sound : l.sound ≡ sound_among l.cells.items;
  room : vec_len l.events + deque_len l.cells ≤ deque_capacity l.cells;
  capacity : vec_capacity l.events ≡ vec_capacity l.fn.events;
}

abbrev pub decreases-loop-event : goal.decreases-loop-event
decreases-loop-event l = vec_len l.events
