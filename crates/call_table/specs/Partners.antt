-- Answers whose pairs are asked for.
use Rattle.mpi_model.specs.Layouts.{Parts}
use Rattle.trace_know.specs.View.{View}
use Rattle.trace_node.specs.Answer.{Answered, IsAnswer}

-- It is the answer of some layout to something that is known.
abbrev pub IsAnswered : Answered → Type 0
IsAnswered a = (layout : Parts) × (view : View) × IsAnswer layout view a
