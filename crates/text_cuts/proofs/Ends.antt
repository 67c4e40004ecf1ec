-- A text that is read call by call, and how it ends.
use Rattle.std.proofs.Common.{◌≡◌, ◌∙◌, ◌++◌, ℕ, Bool, List, [], ◌∷◌, Option, refl, subst, sym}
use Rattle.dumpi_text.specs.Call.{TextCall}
use Rattle.dumpi_text.specs.Grammar.{Stopped}
use Rattle.dumpi_text.specs.Reading.{MeansAll}
use Rattle.dumpi_text.specs.declared.fault.LineFault.{LineFault}
use Rattle.dumpi_calls.specs.Lacking.{lacking_line}
use Rattle.dumpi_calls.specs.Walks.{RefusesNext}
use Rattle.dumpi_text.specs.declared.fault.TextCause.TheVariants as causes
use Rattle.dumpi_text.specs.declared.fault.TextFault.{TextFault}
use Rattle.dumpi_text.specs.declared.fault.TextFault.TheVariants as faults
use Rattle.text_cuts.specs.Cuts.{last_lacking}
use Rattle.text_cuts.specs.Ends.{EndsAtFault, EndsSo}
use Rattle.text_cuts.specs.declared.end.TextEnd.{TextEnd}
use Rattle.text_cuts.specs.declared.end.TextEnd.TheVariants.{Whole, Refused}

-- one call more
pub lacking_more : (dropped : Bool) (calls : List TextCall) (call : TextCall) → last_lacking dropped (calls ++ call ∷ []) ≡ lacking_line dropped call
lacking_more dropped [] call = refl
lacking_more dropped (one ∷ []) call = refl
lacking_more dropped (one ∷ other ∷ calls) call = lacking_more dropped (other ∷ calls) call

-- the text is refused at a line
pub ends_refused : (dropped : Bool) (text : Option (List ℕ)) (calls : List TextCall) (fault : TextFault) (line : ℕ) (end : TextEnd) → RefusesNext text calls fault line → EndsAtFault fault end
    → EndsSo dropped text end
ends_refused dropped text calls fault line (Whole lacking at) refuses is = absurd is
ends_refused dropped text calls faults.Memory line (Refused why at) refuses is = absurd (cc is)
ends_refused dropped text calls faults.Ended line (Refused why at) refuses is = absurd refuses
ends_refused dropped text calls (faults.At at_line causes.Read) line (Refused why at) refuses is = absurd (cc is)
ends_refused dropped text calls (faults.At at_line (causes.Line broken)) line (Refused why at) refuses is =
    let same_line : at ≡ at_line = cc is in
    let same_fault : why ≡ broken = cc is in
    (calls, refuses.1.0, subst (λ (f : LineFault). MeansAll text calls (Stopped f refuses.1.0)) (sym same_fault) refuses.1.1, same_line ∙ refuses.0 ∙ refuses.1.2)
