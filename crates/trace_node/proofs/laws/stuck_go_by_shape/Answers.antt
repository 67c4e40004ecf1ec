use Rattle.std.proofs.Common.{refl}
use Rattle.trace_node.specs.Answer.{shapes}
use Rattle.trace_node.proofs.Waits.{are_stuck}
use Rattle.trace_node.proofs.laws.stuck_go_by_shape.Goals as goal

pub returns : goal.returns
returns c = λ ranks states conditions rising all. are_stuck ranks states states conditions (shapes conditions) refl refl rising all
