use Rattle.std.proofs.Common.{arith}
use Rattle.trace_know.proofs.Counts.{sound-le}
use Rattle.trace_know.proofs.run.move_in.Goals as goal

pub overflow_add-sound : goal.overflow_add-sound
overflow_add-sound c = omega (arith, sound-le c.loop-event.cells.items)
