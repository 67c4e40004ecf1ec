use Rattle.trace_wire.proofs.Sending.{then}
use Rattle.trace_wire.proofs.write.cells.put_cell.Goals as goal

pub returns : goal.returns
returns g c = then c.put_place.ensures c.put_known.ensures
