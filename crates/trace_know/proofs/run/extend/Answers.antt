use Rattle.std.proofs.Common.{◌≡◌, List, [], ◌∷◌, ◌++◌, ap, ◌∙◌}
use Rattle.trace_know.specs.declared.cell.Known.{Known}
use Rattle.trace_know.specs.Rows.{row}
use Rattle.trace_know.proofs.Rows.{row-snoc}
use Rattle.trace_know.proofs.run.extend.Goals as goal

pub returns-clause-ok : goal.returns-clause-ok
returns-clause-ok c =
    let run = c.args.run.now in
    let new = c.add_back.new.run in
    let same = c.add_back.ensures.same in
    let cells : new.cells.items ≡ run.cells.items ++ c.args.known ∷ [] = c.add_back.ensures.cells ∙ ap (λ (ks : List Known). ks ++ c.args.known ∷ []) c.reserve.ensures.items in
    (λ i. row (same.0 i) (same.1 i) (cells i)) ∙ row-snoc run.rank run.first run.cells.items c.args.known
