use Rattle.std.proofs.Common.{◌≡◌, ◌-◌, None}
use Rattle.std.specs.FinMap.{entries}
use Rattle.trace_wire.specs.Parts.{cell, parts_at}
use Rattle.trace_wire.proofs.PartLoop.{alone, cells_after, cells_at}
use Rattle.trace_wire.proofs.LastCells.{AllUpTo}
use Rattle.trace_wire.proofs.read.cells.cells_of.Given as goal

abbrev pub invariant-loop : goal.invariant-loop
invariant-loop l = record {
  so_far : cells_after (entries l.knowledge) (cells_at cell alone (l.count - l.counter) l.last l.rest) ≡ parts_at cell l.count None l.bytes;
  up_to : AllUpTo l.last (entries l.knowledge);
}
