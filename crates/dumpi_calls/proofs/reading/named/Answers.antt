use Rattle.std.proofs.Common.{arith}
use Rattle.std.proofs.lemmas.Int.{to_z-of_z}
use Rattle.dumpi_calls.proofs.Named.{requests_more}
use Rattle.dumpi_calls.proofs.reading.named.Goals as goal

pub loop-number-preserved : goal.loop-number-preserved
loop-number-preserved c = grind (arith, to_z-of_z, requests_more)
