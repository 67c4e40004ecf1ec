use Rattle.std.proofs.Common.{List, subst}
use Rattle.trace_ops.specs.declared.entered.Entered.{Entered}
use Rattle.trace_wait.specs.Entries.{IsRowOf}
use Rattle.trace_wait.proofs.Rows.{rows_more}
use Rattle.trace_wait.proofs.entries.entries_of.Goals as goal

pub loop-o-preserved : goal.loop-o-preserved
loop-o-preserved c =
    rows_more c.loop-o.rows.items c.push.new.self.items c.args.ops.now c.loop-o.o-index c.o-item.result c.in_ok-row_of.field-0 c.loop-o-test.true c.o-item.is c.in_ok-push.ensures.items c.loop-o.invariant
    (subst (λ (l : List Entered). IsRowOf c.in_ok-row_of.field-0 l) c.rounds.ensures c.in_ok-row_of.ensures)
