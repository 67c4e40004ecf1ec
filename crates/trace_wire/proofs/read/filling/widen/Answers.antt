use Rattle.std.proofs.Common.{List, ℕ, length, ap, arith}
use Rattle.trace_wire.proofs.Windows.{widened}
use Rattle.trace_wire.proofs.read.filling.widen.Goals as goal

pub returns-clause-less : goal.returns-clause-less
returns-clause-less g c = widened c.fill_to.result _ _ _ _ _ c.fill_to.ensures.ok c.fill_to.ensures.enough (omega (arith, ap (λ (l : List ℕ). length l) c.held.ensures.value))
