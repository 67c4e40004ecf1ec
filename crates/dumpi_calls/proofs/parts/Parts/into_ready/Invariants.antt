use Rattle.std.proofs.Common.{◌≡◌, ◌+◌, ◌*◌, length}
use Rattle.dumpi_calls.proofs.Joined.{placed_parts}
use Rattle.dumpi_calls.proofs.parts.Parts.into_ready.Given as goal

abbrev pub invariant-loop-part : goal.invariant-loop-part
invariant-loop-part l = record {
  segments : l.segments.items ≡ placed_parts l.rank l.fn.first l.yielded;
  next : l.next ≡ l.fn.first + 32768 * length l.yielded;
}
