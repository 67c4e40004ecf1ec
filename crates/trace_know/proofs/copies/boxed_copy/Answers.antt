use Rattle.std.proofs.Common.{sym, subst}
use Rattle.trace_know.specs.declared.run.Run.{Run}
use Rattle.trace_know.specs.Runs.{IsAlike}
use Rattle.trace_know.proofs.copies.boxed_copy.Goals as goal

pub returns : goal.returns
returns c =
    subst (λ (r : Run). IsAlike c.in_ok-boxed.boxed r) c.get.ensures (subst (λ (r : Run). IsAlike r c.get.result.now) (sym c.in_ok-boxed.ensures) c.in_ok-copy.ensures)
