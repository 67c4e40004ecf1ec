-- What is readable of cells that stand one after another.
use Rattle.std.specs.Prelude.{if◌then◌else◌, List, [], ◌∷◌}
use Rattle.mpi_model.specs.declared.event.Event.{Event}
use Rattle.trace_know.specs.declared.cell.Known.{Known}
use Rattle.trace_know.specs.declared.cell.Known.TheVariants.{One, Contradiction}
use Rattle.trace_know.specs.Prefix.{enters_unread}

-- the events of the cells, up to the first cell at which a readable prefix ends
abbrev pub readable_among : List Known → List Event
readable_among [] = []
readable_among (One event ∷ cells) = if enters_unread event then [] else event ∷ readable_among cells
readable_among (Contradiction ∷ cells) = []
