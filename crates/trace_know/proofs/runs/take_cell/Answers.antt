use Rattle.std.proofs.Common.{◌≡◌, List, ◌∷◌, [], length, sym, ap, subst, ◌∙◌, arith}
use Rattle.std.specs.Prelude.{OnOk}
use Rattle.trace_know.specs.declared.cell.Known.{Known}
use Rattle.trace_know.specs.View.{View, join}
use Rattle.trace_know.specs.Runs.{of_run, of_runs, IsFilled}
use Rattle.trace_know.proofs.Rows.{run-single}
use Rattle.trace_know.proofs.runs.take_cell.Goals as goal

pub take_run-requires-clause-filled : goal.take_run-requires-clause-filled
take_run-requires-clause-filled c =
    let one = c.in_ok-piece.ensures in
    let first = one.first in
    let place = c.requires.place in
    let cells : length c.in_ok-piece.piece.cells.items ≡ length (c.args.known ∷ []) = ap (λ (ks : List Known). length ks) one.cells in
    subst IsFilled (sym c.in_ok-boxed.ensures) (record { some = omega arith; places = omega arith; counted = one.counted })

pub returns-clause-ok : goal.returns-clause-ok
returns-clause-ok c =
    let one = c.in_ok-piece.ensures in
    subst (λ (v : View). OnOk c.take_run.result (of_runs c.take_run.new.runs.items ≡ join (of_runs c.args.runs.now.items) v))
    (ap of_run c.in_ok-boxed.ensures ∙ run-single c.in_ok-piece.piece c.args.rank c.args.place c.args.known one.rank one.first one.cells) c.take_run.ensures.ok
