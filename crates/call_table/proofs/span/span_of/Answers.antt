use Rattle.std.proofs.Common.{ℕ, ◌≤◌, subst, sym}
use Rattle.call_table.proofs.Ordered.{begins_before}
use Rattle.call_table.proofs.span.span_of.Goals as goal

pub returns-clause-order : goal.returns-clause-order
returns-clause-order c = subst (λ (n : ℕ). c.args.enter ≤ n) (sym c.end_of.ensures) (begins_before c.args.enter c.args.exit c.args.last)
