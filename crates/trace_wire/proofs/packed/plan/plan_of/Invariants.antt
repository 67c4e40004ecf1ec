use Rattle.std.proofs.Common.{◌≡◌, length}
use Rattle.std.specs.FinMap.{entries}
use Rattle.trace_know.specs.Listing.{run_len}
use Rattle.trace_wire.specs.Cells.{AreInRange}
use Rattle.trace_wire.proofs.Plans.{Planned}
use Rattle.trace_wire.proofs.packed.plan.plan_of.Given as goal

abbrev pub invariant-loop-known : goal.invariant-loop-known
invariant-loop-known l = record {
  run_len : l.run_len ≡ run_len l.cells;
  planned : Planned (entries l.knowledge) l.cells l.plan.items l.part l.goes_on;
  range : AreInRange l.cells → AreInRange (entries l.knowledge);
}

abbrev pub decreases-loop-known : goal.decreases-loop-known
decreases-loop-known l = length l.cells
