use Rattle.std.specs.List.{AllWithin}
use Rattle.mpi_model.specs.Events.{IsSigned}
use Rattle.mpi_model.proofs.list.requests.Requests.known.Given as goal

abbrev pub invariant-loop-number : goal.invariant-loop-number
invariant-loop-number l = AllWithin IsSigned l.number-items 0 l.number-index
