use Rattle.std.proofs.Common.{◌≡◌, ◌+◌, ◌≤◌, length, vec_len}
use Rattle.std.specs.Prelude.{vec_capacity}
use Rattle.trace_know.specs.Patches.{IsMerging, of_all}
use Rattle.trace_know.specs.Runs.{of_runs}
use Rattle.trace_know.specs.View.{join}
use Rattle.trace_know.proofs.patches.patched.Given as goal

abbrev pub invariant-loop-runs : goal.invariant-loop-runs
invariant-loop-runs l = record {
  room : length l.runs.items + length l.patch.items + vec_len l.falling ≤ vec_capacity l.falling;
  turned : length l.runs.items + length l.patch.items + length l.falling.items ≤ l.room.room;
  merging : IsMerging l.runs.items l.patch.items l.falling.items;
  view : of_all l.runs.items l.patch.items l.falling.items ≡ join (of_runs l.fn.runs.items) (of_runs l.fn.patch.items);
}

abbrev pub decreases-loop-runs : goal.decreases-loop-runs
decreases-loop-runs l = length l.runs.items + length l.patch.items
