use Rattle.std.proofs.Common.{ap}
use Rattle.trace_wire.specs.Forms.{byte}
use Rattle.trace_wire.proofs.Sending.{reads, then}
use Rattle.trace_wire.proofs.write.parts.put_head.Goals as goal

pub returns : goal.returns
returns g c = then c.put.ensures (then (reads c.put_byte.ensures (ap byte.spell c.number.ensures)) c.put_u32.ensures)
