use Rattle.std.proofs.Common.{◌≡◌, sym, ap, subst, ◌∙◌}
use Rattle.std.specs.FinMap.{entries}
use Rattle.trace_know.specs.Placed.{IsKnowledge}
use Rattle.trace_know.specs.View.{View, join}
use Rattle.trace_know.specs.Rows.{row}
use Rattle.trace_know.specs.Runs.{of_run}
use Rattle.trace_know.proofs.Behind.{entries-row, past_before}
use Rattle.trace_know.proofs.Holding.{row-IsKnowledge}
use Rattle.trace_know.proofs.Rows.{run-row}
use Rattle.trace_know.proofs.knowledge.Knowledge.put_run.Goals as goal

pub join_piece-requires-clause-placed : goal.join_piece-requires-clause-placed
join_piece-requires-clause-placed c =
    let run = c.run_of_cells-run.ensures in
    let same : of_run c.in_ok-piece.piece ≡ row c.args.rank c.args.first c.args.cells.items = ap of_run c.in_ok-piece.ensures ∙ run-row c.run_of_cells-run.result c.args.rank c.args.first c.args.cells.items run.place.0 run.place.1 run.cells in
    subst IsKnowledge (sym same) (row-IsKnowledge c.args.rank c.args.first c.args.cells.items c.requires.placed)

pub returns-clause-ok : goal.returns-clause-ok
returns-clause-ok c =
    let old = c.args.self.now in
    let run = c.run_of_cells-run.ensures in
    let same : of_run c.in_ok-piece.piece ≡ row c.args.rank c.args.first c.args.cells.items = ap of_run c.in_ok-piece.ensures ∙ run-row c.run_of_cells-run.result c.args.rank c.args.first c.args.cells.items run.place.0 run.place.1 run.cells in
    ap entries (c.in-Ok.ensures.ok ∙ ap (λ (v : View). join old v) same) ∙ entries-row old c.args.rank c.args.first c.args.cells.items (past_before old c.args.rank c.args.first c.requires.last)
