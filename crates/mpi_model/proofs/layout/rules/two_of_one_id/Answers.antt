use Rattle.std.proofs.Common.{◌==◌, ◌∙◌, sym, ap}
use Rattle.std.proofs.lemmas.List.Sorted.{IsNonDecreasingBy-from_sort}
use Rattle.mpi_model.specs.Communicators.{has_double}
use Rattle.mpi_model.proofs.Neighbours.{flips}
use Rattle.mpi_model.proofs.Pairs.{has_pair-IsPermutation}
use Rattle.mpi_model.proofs.layout.rules.two_of_one_id.Goals as goal

pub two_neighbours-requires : goal.two_neighbours-requires
two_neighbours-requires c =
    rw c.deref.ensures.value (IsNonDecreasingBy-from_sort (λ x. x) c.sort.new.self.items c.in_ok-sort.ensures.sorted)

pub returns : goal.returns
returns c =
    c.two_neighbours.ensures ∙ ap has_double c.deref.ensures.value
    ∙ sym (has_pair-IsPermutation (λ x y. y == x) flips c.in_ok-ids.ids.items c.sort.new.self.items c.in_ok-sort.ensures.permutation)
    ∙ ap has_double c.in_ok-ids.ensures
