use Rattle.trace_wait.proofs.Rows.{row_more}
use Rattle.trace_wait.proofs.entries.row_of.Goals as goal

pub loop-e-preserved : goal.loop-e-preserved
loop-e-preserved c = λ n.
    row_more n c.args.entries.now c.loop-e.e-index c.e-item.result _ _ c.loop-e-test.true c.e-item.is (c.loop-e.invariant n) (c.in_ok-note_entry.ensures n)
