use Rattle.std.specs.Cmp.Rules.{signed_items}
use Rattle.mpi_model.proofs.list.requests.Requests.same.Goals as goal

pub returns : goal.returns
returns c = rw (c.eq.ensures, ← c.self.view_is, ← c.other.view_is) (signed_items c.self.inside.items.items c.other.inside.items.items)
