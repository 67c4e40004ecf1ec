use Rattle.std.proofs.Common.{◌∙◌, ◌++◌, Option, List, ℕ, ap, slice_get}
use Rattle.trace_report.specs.Words.{small_first}
use Rattle.trace_report.proofs.Printing.{then, reads}
use Rattle.trace_report.proofs.words.put_small.Goals as goal

pub returns : goal.returns
returns g c =
    reads (then c.put_first.ensures c.put.ensures)
    (ap (λ (l : Option ℕ). small_first l ++ c.behind_first.result.now) c.first_letter.ensures
    ∙ ap (λ (l : List ℕ). small_first (slice_get c.args.name.now 0) ++ l) c.behind_first.ensures)
