-- What a text tells that is looked at once more.
use Rattle.std.proofs.Common.{ℕ, List, Option, Some, None, subst}
use Rattle.text_notes.specs.Starts.{IsStartOf}
use Rattle.text_notes.specs.Values.{IsValueAt}
use Rattle.text_notes.specs.declared.start.Start.{Start}
use Rattle.run_inputs.specs.Files.{StandsAtFirst}

pub start_told : (file left : Option (List ℕ)) (start : Start) → StandsAtFirst file left → IsStartOf left start → IsStartOf file start
start_told None left start told h = tt
start_told (Some bytes) left start told h = subst (λ (t : Option (List ℕ)). IsStartOf t start) told h

-- the value that a text has for a parameter of a call
pub value_told : (file left : Option (List ℕ)) (line : ℕ) (name : List ℕ) (value : Option (List ℕ)) → StandsAtFirst file left → IsValueAt left line name value → IsValueAt file line name value
value_told None left line name value told h = tt
value_told (Some bytes) left line name value told h = subst (λ (t : Option (List ℕ)). IsValueAt t line name value) told h
