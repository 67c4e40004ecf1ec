use Rattle.std.proofs.Common.{◌∷◌, refl}
use Rattle.dumpi_calls.proofs.NumberLines.{no_note}
use Rattle.dumpi_calls.proofs.number_lines.plain_line.Goals as goal

pub digits_before-requires : goal.digits_before-requires
digits_before-requires c = λ rest. no_note (10 ∷ rest) rest refl
