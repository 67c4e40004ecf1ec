use Rattle.std.specs.List.{AllWithin}
use Rattle.mpi_model.specs.Events.{IsElement}
use Rattle.mpi_model.proofs.list.elements.Elements.known.Given as goal

abbrev pub invariant-loop-element : goal.invariant-loop-element
invariant-loop-element l = AllWithin IsElement l.element-items 0 l.element-index
