-- A reader that fails while its text is walked.
use Rattle.std.proofs.Common.{◌≡◌, ◌∙◌, ◌+◌, ℕ, length, List, Option, inl, inr, refl, sym, subst}
use Rattle.std.specs.Io.KnownBytes.{prepend_known}
use Rattle.dumpi_text.specs.Call.{TextCall}
use Rattle.dumpi_text.specs.Failing.{IsRestOf}
use Rattle.dumpi_text.specs.Lines.{CountsLines}
use Rattle.dumpi_text.specs.Next.{ReadsInto}
use Rattle.dumpi_text.specs.Reading.{HasRead}
use Rattle.dumpi_text.specs.Source.{rest_of}
use Rattle.dumpi_text.specs.Standing.{Stops, TextState}
use Rattle.dumpi_text.specs.declared.fault.TextCause.TheVariants as causes
use Rattle.dumpi_text.specs.declared.fault.TextFault.{TextFault}
use Rattle.dumpi_text.specs.declared.fault.TextFault.TheVariants as faults
use Rattle.dumpi_text.specs.declared.standing.TextStanding.TheVariants.{Reading, Finished}
use Rattle.dumpi_calls.specs.Walks.{FailsAfter, FailsIn, IsRead, IsReadFault}

-- The next call couldn't be read.
fails_at : {R : Type 0} → (left : R → Option (List ℕ)) (failures : R → ℕ) (text : Option (List ℕ)) (calls : List TextCall) (line : ℕ) (old new : TextState) → HasRead text calls old.at (rest_of old.rest)
    → Stops old new (faults.At line causes.Read) → IsRestOf left failures new.rest → FailsAfter left failures text old.rest.failures calls new.told.line
fails_at left failures text calls line old new read stops reader = record {
  at = old.at;
  known = rest_of old.rest;
  read = read;
  new = reader.0;
  once = reader.2 ∙ stops.1.0;
  at_hand = new.rest.at_hand;
  next = new.told;
  line_is = refl;
  lines = subst (λ (l : Option (List ℕ)). CountsLines (old.at.line + 1) (rest_of old.rest) new.told.line (prepend_known new.rest.at_hand l)) (sym reader.1) stops.1.1;
  into = subst (λ (l : Option (List ℕ)). ReadsInto old.at (rest_of old.rest) new.told (prepend_known new.rest.at_hand l)) (sym reader.1) stops.1.2;
}

-- A text that is over isn't read.
pub fails : {R : Type 0} → (left : R → Option (List ℕ)) (failures : R → ℕ) (text : Option (List ℕ)) (calls : List TextCall) (fault : TextFault) (old new : TextState)
    → (old.standing ≡ Reading → Stops old new fault) → (old.standing ≡ Finished → ⊥) → IsRestOf left failures new.rest
    → IsRead text calls old → IsReadFault fault → FailsAfter left failures text old.rest.failures calls new.told.line
fails left failures text calls fault old new reading finished reader is_read is_fault = elim is_read.stands [
  | inl e ↦ fails_at left failures text calls is_fault.0 old new e.1 (subst (λ (f : TextFault). Stops old new f) is_fault.1 (reading e.0)) reader
  | inr e ↦ absurd (finished e.0)
]

-- a walk that was stopped so
pub fails_in : {R : Type 0} → (left : R → Option (List ℕ)) (failures : R → ℕ) (reader : R) (calls : List TextCall) (before count line : ℕ) → count ≡ length calls → before ≡ failures reader
    → FailsAfter left failures (left reader) before calls line → FailsIn left failures reader count line
fails_in left failures reader calls before count line counted same fails =
    (calls, counted, subst (λ (n : ℕ). FailsAfter left failures (left reader) n calls line) same fails)
