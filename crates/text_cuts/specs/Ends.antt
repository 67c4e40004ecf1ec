-- How a text ends.
use Rattle.std.specs.Prelude.{◌≡◌, ℕ, Bool, List, Option}
use Rattle.dumpi_text.specs.Call.{TextCall}
use Rattle.dumpi_text.specs.Grammar.{Complete, Stopped}
use Rattle.dumpi_text.specs.Reading.{MeansAll}
use Rattle.dumpi_text.specs.declared.fault.TextCause.TheVariants.{Line}
use Rattle.dumpi_text.specs.declared.fault.TextFault.{TextFault}
use Rattle.dumpi_text.specs.declared.fault.TextFault.TheVariants.{At}
use Rattle.dumpi_text.specs.declared.step.Position.{Position}
use Rattle.text_cuts.specs.Cuts.{last_lacking}
use Rattle.text_cuts.specs.declared.end.TextEnd.{TextEnd}
use Rattle.text_cuts.specs.declared.end.TextEnd.TheVariants.{Whole, Refused}

-- The text ends so, where its bytes are told: it is read to its end, or refused at a line.
abbrev pub EndsSo : Bool → Option (List ℕ) → TextEnd → Type 0
EndsSo dropped text (Whole lacking line) = (calls : List TextCall) × (at : Position) × MeansAll text calls (Complete at) × (lacking ≡ last_lacking dropped calls) × (line ≡ at.line)
EndsSo dropped text (Refused fault line) = (calls : List TextCall) × (at : Position) × MeansAll text calls (Stopped fault at) × (line ≡ at.line)

-- A text that has no next call for this fault ends so: one of its lines is refused.
abbrev pub EndsAtFault : TextFault → TextEnd → Type 0
EndsAtFault fault (Whole lacking line) = ⊥
EndsAtFault fault (Refused line_fault line) = fault ≡ At line (Line line_fault)
