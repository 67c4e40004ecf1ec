use Rattle.trace_wire.proofs.Sending.{then}
use Rattle.trace_wire.proofs.write.field.put_indexed.Goals as goal

pub returns : goal.returns
returns g c = then c.put_index.ensures c.put_told.ensures
