use Rattle.std.proofs.Common.{◌∙◌, ◌∷◌, [], ℕ, ap, sym}
use Rattle.trace_report.specs.Words.{small_first}
use Rattle.trace_report.proofs.Printing.{reads}
use Rattle.trace_report.proofs.words.put_first.Goals as goal

pub returns-in-Some : goal.returns-in-Some
returns-in-Some g c = reads c.put_letter.ensures (ap (λ (x : ℕ). x ∷ []) c.small.ensures ∙ sym (ap small_first c.in-Some.is))
