use Rattle.std.proofs.Common.{◌++◌, codes, refl}
use Rattle.dumpi_calls.proofs.NumberLines.{noted_double}
use Rattle.dumpi_calls.proofs.number_lines.double_line.Goals as goal

pub digits_before-requires : goal.digits_before-requires
digits_before-requires c = λ rest. noted_double (codes " (MPI_DOUBLE)\n" ++ rest) rest refl
