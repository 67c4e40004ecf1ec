use Rattle.mpi_model.proofs.EachKind.{have_numbers, tests_each}
use Rattle.mpi_model.proofs.kind.laws.each_kind.Goals as goal

pub returns-clause-tests : goal.returns-clause-tests
returns-clause-tests c = tests_each

pub returns-clause-numbers : goal.returns-clause-numbers
returns-clause-numbers c = have_numbers
