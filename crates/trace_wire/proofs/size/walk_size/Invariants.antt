use Rattle.std.proofs.Common.{◌≡◌, ◌<◌, ◌+◌, ◌-◌, ◌^◌, length}
use Rattle.std.specs.Prelude.{min}
use Rattle.trace_know.specs.Listing.{run_len}
use Rattle.trace_wire.specs.Cells.{AreInRange, knowns_bytes, knowns_of}
use Rattle.trace_wire.specs.Frames.{parts_in}
use Rattle.trace_wire.proofs.size.walk_size.Given as goal

abbrev pub invariant-loop-known : goal.invariant-loop-known
invariant-loop-known l = record {
  run_len : l.run_len ≡ run_len l.cells;
  parts_fit : l.parts < 2 ^ 64;
  len_fits : l.len < 2 ^ 64;
  parts : min (l.parts + parts_in l.version l.cells) (2 ^ 64 - 1) ≡ min (parts_in l.version l.fn.cells) (2 ^ 64 - 1);
  len : min (l.len + length (knowns_bytes (knowns_of l.cells))) (2 ^ 64 - 1) ≡ min (length (knowns_bytes (knowns_of l.fn.cells))) (2 ^ 64 - 1);
  range : AreInRange l.cells → AreInRange l.fn.cells;
}

abbrev pub decreases-loop-known : goal.decreases-loop-known
decreases-loop-known l = length l.cells
