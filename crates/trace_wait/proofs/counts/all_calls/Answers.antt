use Rattle.std.proofs.Common.{◌∙◌, ◌++◌, ◌∷◌, [], ap, sym, arith, List}
use Rattle.trace_wait.specs.Calls.{CallsOn, counts}
use Rattle.trace_wait.proofs.Tables.{table_more, table_end}
use Rattle.trace_wait.proofs.counts.all_calls.Goals as goal

pub loop-comm-preserved : goal.loop-comm-preserved
loop-comm-preserved c =
    let comms = c.args.layout.now.comms in
    let p = table_more comms c.args.entries.now comms c.loop-comm.i c.in-Some.comm (sym c.in-Some.ensures) in
    record {
      within = omega (arith, p.0);
      rows = c.in_ok-push.ensures.items
          ∙ ap (λ (t : CallsOn). c.loop-comm.rows.items ++ t ∷ []) c.in_ok-row.ensures
          ∙ ap (λ (l : List CallsOn). l ++ record { comm = c.in-Some.comm; calls = counts comms c.args.entries.now c.in-Some.comm } ∷ []) c.loop-comm.invariant.rows ∙ sym p.1;
    }

pub returns : goal.returns
returns c = c.loop-comm.invariant.rows ∙ table_end c.args.layout.now.comms c.args.entries.now c.args.layout.now.comms c.loop-comm.i (sym c.in_default.ensures)
