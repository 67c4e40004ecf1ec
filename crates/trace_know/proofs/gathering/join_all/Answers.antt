use Rattle.std.proofs.Common.{◌≡◌, IfOk, subst}
use Rattle.trace_know.specs.View.{View, join}
use Rattle.trace_know.proofs.AnyOrder.{any_order}
use Rattle.trace_know.proofs.gathering.join_all.Goals as goal

pub returns : goal.returns
returns c =
    subst (λ (v : View). IfOk c.join_each.result (λ all. all ≡ join c.args.know v)) (any_order c.args.pieces.items c.in_ok-sorted.sorted.items c.in_ok-sorted.ensures) c.join_each.ensures
