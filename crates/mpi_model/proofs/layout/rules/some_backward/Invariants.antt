use Rattle.std.proofs.Common.{◌≡◌, drop}
use Rattle.std.specs.List.{list_any}
use Rattle.mpi_model.specs.Layouts.{is_backward}
use Rattle.mpi_model.proofs.layout.rules.some_backward.Given as goal

abbrev pub invariant-loop-number : goal.invariant-loop-number
invariant-loop-number l = list_any is_backward (drop l.number-index l.numbers) ≡ list_any is_backward l.numbers
