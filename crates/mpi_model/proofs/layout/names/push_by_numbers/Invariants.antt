use Rattle.std.proofs.Common.{◌≡◌, ◌++◌, drop}
use Rattle.mpi_model.specs.Names.{names_by_numbers}
use Rattle.mpi_model.proofs.layout.names.push_by_numbers.Given as goal

abbrev pub invariant-loop-i : goal.invariant-loop-i
invariant-loop-i l = l.names.items ++ names_by_numbers l.comm (drop l.i l.members) (drop l.i l.numbers) ≡ l.fn.names.items ++ names_by_numbers l.comm l.members l.numbers
