use Rattle.std.proofs.Common.{ap, sym}
use Rattle.trace_wire.specs.Fields.{index_fields}
use Rattle.trace_wire.proofs.Sending.{reads, then}
use Rattle.trace_wire.proofs.write.field.put_index.Goals as goal

pub returns-in-Some : goal.returns-in-Some
returns-in-Some g c = reads (then c.put_byte-in-Some.ensures c.put_u32.ensures) (ap index_fields (sym c.in-Some.is))
