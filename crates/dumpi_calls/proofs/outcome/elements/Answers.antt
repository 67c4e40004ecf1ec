use Rattle.std.proofs.Common.{arith}
use Rattle.std.proofs.lemmas.Int.{to_z-of_z}
use Rattle.dumpi_calls.proofs.Elements.{element_more, element_past}
use Rattle.dumpi_calls.proofs.outcome.elements.Goals as goal
use Rattle.dumpi_calls.proofs.outcome.elements.Goals.{in-Some+in_ok-push, in_default}

pub loop-place-preserved : goal.loop-place-preserved
loop-place-preserved c = elim c.match-position.branch [
  | in-Some+in_ok-push w ↦ grind (arith, to_z-of_z, element_more)
  | in_default w ↦ grind (arith, to_z-of_z, element_past)
]
