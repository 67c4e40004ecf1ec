use Rattle.std.specs.List.{AllWithin}
use Rattle.mpi_model.specs.Ranges.{IsTold}
use Rattle.mpi_model.proofs.list.sources.Sources.known.Given as goal

abbrev pub invariant-loop-told : goal.invariant-loop-told
invariant-loop-told l = AllWithin IsTold l.told-items 0 l.told-index
