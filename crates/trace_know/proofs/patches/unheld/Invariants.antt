use Rattle.std.proofs.Common.{◌≤◌, take}
use Rattle.trace_know.specs.Patches.{AddTheSame}
use Rattle.trace_know.specs.Runs.{Above, last_end}
use Rattle.trace_know.proofs.patches.unheld.Given as goal

abbrev pub invariant-loop-index : goal.invariant-loop-index
invariant-loop-index l = record {
  above : Above 0 l.patch.items;
  behind : last_end 0 l.patch.items ≤ last_end 0 (take l.index l.others.items);
  view : AddTheSame l.runs.items l.patch.items (take l.index l.others.items);
}
