use Rattle.trace_wire.proofs.Sending.{then}
use Rattle.trace_wire.proofs.write.field.put_element.Goals as goal

pub returns : goal.returns
returns g c = then c.put_u32.ensures c.put_told.ensures
