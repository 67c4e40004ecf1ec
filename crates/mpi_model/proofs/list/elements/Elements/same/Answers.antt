use Rattle.std.specs.Cmp.Lexicographic.{pointwise_decides}
use Rattle.mpi_model.proofs.Same.{element_same}
use Rattle.mpi_model.proofs.list.elements.Elements.same.Goals as goal

pub returns : goal.returns
returns c = rw (c.eq.ensures, ← c.self.view_is, ← c.other.view_is) (pointwise_decides element_same c.self.inside.items.items c.other.inside.items.items)
