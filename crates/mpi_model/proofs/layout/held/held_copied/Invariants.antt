use Rattle.std.proofs.Common.{◌≡◌, map, take}
use Rattle.mpi_model.proofs.layout.held.held_copied.Given as goal

abbrev pub invariant-loop-list : goal.invariant-loop-list
invariant-loop-list l = map (λ v. v.items) l.copy.items ≡ map (λ v. v.items) (take l.list-index l.lists)
