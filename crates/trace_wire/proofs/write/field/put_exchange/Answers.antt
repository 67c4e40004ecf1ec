use Rattle.std.proofs.Common.{ap}
use Rattle.trace_wire.specs.Fields.{envelope}
use Rattle.trace_wire.proofs.Sending.{reads, then}
use Rattle.trace_wire.proofs.write.field.put_exchange.Goals as goal

pub returns : goal.returns
returns g c = then (reads c.put_envelope.ensures (ap envelope.spell c.send.ensures.value)) (reads c.put_envelope-2.ensures (ap envelope.spell c.receive.ensures.value))
