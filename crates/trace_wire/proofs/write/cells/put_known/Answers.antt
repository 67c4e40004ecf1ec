use Rattle.std.proofs.Common.{ap, sym}
use Rattle.trace_wire.specs.Cells.{known_bytes}
use Rattle.trace_wire.proofs.Sending.{reads, then}
use Rattle.trace_wire.proofs.write.cells.put_known.Goals as goal

pub returns-in-One : goal.returns-in-One
returns-in-One g c = reads (then c.put_byte.ensures c.put_event.ensures) (ap known_bytes (sym c.in-One.is))
