use Rattle.std.proofs.Common.{◌++◌, List, length, ap, ◌∙◌}
use Rattle.mpi_model.specs.declared.event.Event.{Event}
use Rattle.trace_know.proofs.SoundCells.{sound-count}
use Rattle.trace_know.proofs.readable.Readable.len.Goals as goal

pub returns : goal.returns
returns c = c.self.invariant ∙ sound-count (c.self.inside.front.now ++ c.self.inside.back.now) ∙ ap (λ (es : List Event). length es) c.self.view_is
