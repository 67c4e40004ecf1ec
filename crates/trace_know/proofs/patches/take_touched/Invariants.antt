use Rattle.std.proofs.Common.{◌<◌, ℕ, slice_index_or}
use Rattle.trace_know.specs.declared.run.Run.{Run}
use Rattle.trace_know.specs.Patches.{AddTheSame, IsSettled}
use Rattle.trace_know.specs.Runs.{of_runs, Above}
use Rattle.trace_know.proofs.patches.take_touched.Given as goal

abbrev pub invariant-loop-index : goal.invariant-loop-index
invariant-loop-index l = record {
  above : Above 0 l.patch.items;
  view : AddTheSame l.runs.items l.patch.items l.fn.patch.items;
  settled : (k : ℕ) (d : Run) → k < l.index → IsSettled (slice_index_or l.runs.items k d) (of_runs l.patch.items);
}
