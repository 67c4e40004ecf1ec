use Rattle.trace_wire.proofs.Sending.{then}
use Rattle.trace_wire.proofs.write.event.put_head.Goals as goal

pub returns : goal.returns
returns g c = then c.put_byte.ensures c.put_stamp.ensures
