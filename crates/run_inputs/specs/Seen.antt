-- The files of a run as it reads them: a text that may have been cut off as far as it is kept.
use Rattle.std.specs.Prelude.{◌≡◌, ◌-◌, ◌⊎◌, ℕ, Bool, true, false, List, [], ◌∷◌, Option, Some, None, Contains, filter, if◌then◌else◌, is_some, map, nat_lt, option_map, string_bytes, take}
use Rattle.std.specs.List.{AllByRecursion}
use Rattle.std.specs.Str.{bytes_eq}
use Rattle.dumpi_text.specs.declared.fault.LineFault.{LineFault}
use Rattle.dumpi_text.specs.declared.fault.LineFault.TheVariants.{BadStamp, Truncated}
use Rattle.dumpi_text.specs.declared.fault.TextCause.TheVariants.{Line}
use Rattle.run_files.specs.Manifests.{PieceParts}
use Rattle.text_cuts.specs.Cuts.{CutAt, cut_of, kept_text, lacking_in, lines_before}
use Rattle.text_cuts.specs.Ends.{EndsSo}
use Rattle.text_cuts.specs.Lines.{bytes_of_lines, first_lines, missing_lines}
use Rattle.text_cuts.specs.declared.end.TextEnd.{TextEnd}
use Rattle.text_cuts.specs.declared.end.TextEnd.TheVariants.{Whole, Refused}
use Rattle.text_cuts.specs.declared.lines.FirstLines.{FirstLines}
use Rattle.run_inputs.specs.WalkFaults.{IsNamed}
use Rattle.run_inputs.specs.Prepared.{RefusesWords}
use Rattle.run_inputs.specs.declared.faults.fault.RunFault.{RunFault}
use Rattle.run_inputs.specs.declared.faults.fault.RunFault.TheVariants as runs
use Rattle.run_inputs.specs.declared.faults.init_fault.InitFault.{InitFault}
use Rattle.run_inputs.specs.declared.faults.init_fault.InitFault.TheVariants.{Memory, Piped, Text}
use Rattle.run_inputs.specs.declared.load.cut_files.CutText.{CutText}

-- ---- the bytes of a file

-- the first bytes of a file, or all of them
abbrev pub front_of : Option ℕ → Option (List ℕ) → Option (List ℕ)
front_of None bytes = bytes
front_of (Some limit) bytes = option_map (take limit) bytes

-- what is kept of a file that is a text which may have been cut off
abbrev pub kept_known : Option (List ℕ) → Option (List ℕ)
kept_known text = option_map kept_text text

-- The files of these names are read as far as they are kept, all others whole.
pub record Sees (file : List ℕ → Option (List ℕ)) (names : List (List ℕ)) (seen : List ℕ → Option (List ℕ)) : Type 0 where
  pub named : (name : List ℕ) → Contains names name → seen name ≡ kept_known (file name)
  pub other : (name : List ℕ) → (Contains names name → ⊥) → seen name ≡ file name

-- The files of these names are read whole, or as far as they are kept.
abbrev pub Reads : (List ℕ → Option (List ℕ)) → List (List ℕ) → (List ℕ → Option (List ℕ)) → Type 0
Reads file names seen = (seen ≡ file) ⊎ Sees file names seen

-- the files of the pieces that may have been cut off
abbrev pub cut_names : List PieceParts → List (List ℕ)
cut_names pieces = map (λ p. p.file) (filter (λ p. p.cut) pieces)

-- ---- files that are known to be cut off

-- the name of a text that was cut off, and how many of its bytes are kept
abbrev pub kept_of : CutText → List ℕ × ℕ
kept_of cut = (string_bytes cut.file, cut.bytes)

-- how many bytes of a file are kept, where it was cut off
abbrev pub limit_in : List (List ℕ × ℕ) → List ℕ → Option ℕ
limit_in [] name = None
limit_in (cut ∷ cuts) name = if bytes_eq cut.0 name then Some cut.1 else limit_in cuts name

-- whether a file was cut off
abbrev pub is_cut : List (List ℕ × ℕ) → List ℕ → Bool
is_cut cuts name = is_some (limit_in cuts name)

-- the files of a run of which these were cut off
abbrev pub seen_by : List (List ℕ × ℕ) → (List ℕ → Option (List ℕ)) → List ℕ → Option (List ℕ)
seen_by cuts file name = front_of (limit_in cuts name) (file name)

-- A text was cut off there, or it wasn't.
abbrev pub IsCutAt : List ℕ → Option CutAt → Option CutText → Type 0
IsCutAt text None None = Unit {0}
IsCutAt text (Some at) (Some cut) = (cut.bytes ≡ bytes_of_lines at.kept text) × (cut.line ≡ at.last)
IsCutAt text _ _ = ⊥

-- Where a file is a text that was cut off, it is told so.
abbrev pub TellsCut : Option (List ℕ) → Option CutText → Type 0
TellsCut None cut = Unit {0}
TellsCut (Some text) cut = IsCutAt text (cut_of text) cut

-- Of each of these files it is told whether it was cut off.
pub record AreCutsOf (file : List ℕ → Option (List ℕ)) (names : List (List ℕ)) (cuts : List CutText) : Type 0 where
  pub good : AllByRecursion (λ cut. front_of (Some cut.bytes) (file (string_bytes cut.file)) ≡ kept_known (file (string_bytes cut.file))) cuts
  pub among : AllByRecursion (λ cut. Contains names (string_bytes cut.file)) cuts
  pub whole : (name : List ℕ) → Contains names name → limit_in (map kept_of cuts) name ≡ None → kept_known (file name) ≡ file name

-- ---- looks at a text that may have been cut off

-- a file ends so, where it is told
abbrev pub EndsKnown : Bool → Option (List ℕ) → TextEnd → Type 0
EndsKnown dropped None end = Unit {0}
EndsKnown dropped (Some text) end = EndsSo dropped (Some text) end

-- this is told of the first lines of a file
abbrev pub TellsKnown : ℕ → Option (List ℕ) → FirstLines → Type 0
TellsKnown count None lines = Unit {0}
TellsKnown count (Some text) lines = (lines.bytes ≡ bytes_of_lines count text) × (lines.missing ≡ missing_lines count text)

-- so many lines of a file are kept
abbrev pub KeepsLines : ℕ → ℕ → Option (List ℕ) → CutText → Type 0
KeepsLines kept last None cut = Unit {0}
KeepsLines kept last (Some text) cut = (cut.bytes ≡ bytes_of_lines kept text) × (cut.line ≡ last)

-- how many lines are kept of a text that was cut off in a line
abbrev pub kept_lines : ℕ → List ℕ → ℕ
kept_lines line text = lines_before (lacking_in (first_lines (line - 1) text)) (line - 1)

-- so many lines are kept of a file that was cut off in a line
abbrev pub KeepsBefore : ℕ → Option (List ℕ) → ℕ → Type 0
KeepsBefore line None kept = Unit {0}
KeepsBefore line (Some text) kept = kept ≡ kept_lines line text

-- a file was cut off in a line
abbrev pub CutsInLine : ℕ → Option (List ℕ) → CutText → Type 0
CutsInLine line None cut = Unit {0}
CutsInLine line (Some text) cut = KeepsLines (kept_lines line text) line (Some text) cut

-- a file was cut off in a bad stamp, or wasn't
abbrev pub CutsInStamp : ℕ → Option (List ℕ) → Option CutText → Type 0
CutsInStamp line None cut = Unit {0}
CutsInStamp line (Some text) cut = IsCutAt text (if nat_lt 0 (missing_lines line text) then Some (record { kept = line - 1; last = line }) else None) cut

-- how many lines are kept of a text whose front ends so, of which these stand before the line that is dropped
abbrev pub kept_of_end : TextEnd → ℕ → ℕ
kept_of_end (Whole lacking line) before = lines_before lacking before
kept_of_end (Refused fault line) before = before

-- ---- why nothing is read

-- A file can't be looked at: memory was wanting, or it can't be opened and read once more.
abbrev pub RefusesLook : List ℕ → RunFault → Type 0
RefusesLook name runs.Memory = Unit {0}
RefusesLook name (runs.File path) = IsNamed path name
RefusesLook name _ = ⊥

-- One of these files can't be looked at.
abbrev pub RefusesLooks : List (List ℕ) → RunFault → Type 0
RefusesLooks names fault = (fault ≡ runs.Memory) ⊎ ((name : List ℕ) × Contains names name × RefusesLook name fault)

-- the fault of a line with which a text may have been cut off
abbrev pub ends_a_cut : LineFault → Bool
ends_a_cut BadStamp = true
ends_a_cut Truncated = true
ends_a_cut _ = false

-- a text is refused for such a line, or for a call that lacks a parameter, as where a text was cut off between two lines
abbrev pub says_cut : InitFault → Bool
says_cut (Text (runs.Text (Line fault) path line)) = ends_a_cut fault
says_cut (Text (runs.Missing parameter path line)) = true
says_cut _ = false

-- One of these words names a text whose bytes aren't known, because its file can't be read twice.
abbrev pub NamesPiped : (List ℕ → Option (List ℕ)) → List (List ℕ) → InitFault → Type 0
NamesPiped file words (Piped path) = Contains words (string_bytes path) × (file (string_bytes path) ≡ None)
NamesPiped file words _ = ⊥

-- Why nothing is made of texts that may have been cut off: of one that is read whole, for nothing with which it may have
-- been cut off; or one can't be read again; or of what is kept of them; or one can't be looked at.
abbrev pub RefusesTexts : (List ℕ → Option (List ℕ)) → List (List ℕ) → InitFault → Type 0
RefusesTexts file words fault = (RefusesWords file words fault × (says_cut fault ≡ false))
    ⊎ (NamesPiped file words fault
    ⊎ (((seen : List ℕ → Option (List ℕ)) × Sees file words seen × RefusesWords seen words fault)
    ⊎ ((fault ≡ Memory) ⊎ ((why : RunFault) × (fault ≡ Text why) × RefusesLooks words why))))
