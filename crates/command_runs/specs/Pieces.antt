-- The facts of a piece, and why a piece is refused.
use Rattle.std.specs.Prelude.{◌≡◌, ◌+◌, ℕ, List, [], Option, Some, None, IsSome}
use Rattle.mpi_model.specs.declared.event.Event.{Event}
use Rattle.dumpi_text.specs.Call.{TextCall}
use Rattle.dumpi_text.specs.Lines.{CountsLines}
use Rattle.dumpi_text.specs.Next.{ReadsInto}
use Rattle.dumpi_text.specs.Reading.{HasRead}
use Rattle.dumpi_text.specs.declared.fault.TextCause.{TextCause}
use Rattle.dumpi_text.specs.declared.fault.TextCause.TheVariants as reads
use Rattle.dumpi_text.specs.declared.fault.TextFault.TheVariants.{At}
use Rattle.dumpi_text.specs.declared.step.Position.{Position}
use Rattle.trace_know.specs.Segment.{PlacedEvents, enter_place}
use Rattle.trace_know.specs.Trace.{Trace, facts_from, facts_of}
use Rattle.run_files.specs.Manifests.{PieceParts}
use Rattle.dumpi_calls.specs.Collected.{AreSegments, HasPlacesPast}
use Rattle.dumpi_calls.specs.Seen.{seen_in}
use Rattle.dumpi_calls.specs.Walks.{StopsWalk}
use Rattle.dumpi_calls.specs.Whole.{TellsEvents}
use Rattle.dumpi_calls.specs.declared.collect.Memory.{Memory as NoMemory}
use Rattle.dumpi_calls.specs.declared.fault.WalkCause.{WalkCause}
use Rattle.dumpi_calls.specs.declared.fault.WalkCause.TheVariants as causes
use Rattle.run_inputs.specs.WalkFaults.{IsNamed}
use Rattle.run_inputs.specs.declared.faults.fault.RunFault.{RunFault}
use Rattle.run_inputs.specs.declared.faults.fault.RunFault.TheVariants.{Memory, File, Text, Missing, Wrong, Place}

-- The facts of a piece: the events of its text stand from the Enter of its first call on.
abbrev pub TellsFacts : Option (List ℕ) → ℕ → ℕ → Trace → Type 0
TellsFacts text rank first facts = (events : List Event) × TellsEvents text events × (facts ≡ facts_from rank (enter_place first) events)

-- The segments of a piece: the events of its text from the Enter of its first call on, cut after each 65,536.
abbrev pub TellsSegments : Option (List ℕ) → ℕ → ℕ → List PlacedEvents → Type 0
TellsSegments text rank first segments = (events : List Event) × TellsEvents text events × AreSegments rank first events segments

-- the facts that events of a piece stand for; none stand for none
abbrev pub facts_of_piece : Option PlacedEvents → Trace
facts_of_piece None = []
facts_of_piece (Some piece) = facts_of piece

-- The facts are those of a piece, by its file.
abbrev pub AreFactsOf : (List ℕ → Option (List ℕ)) → PieceParts → Trace → Type 0
AreFactsOf file piece facts = TellsFacts (file piece.file) piece.rank piece.first facts

-- The segments are those of a piece, by its file.
abbrev pub AreSegmentsOf : (List ℕ → Option (List ℕ)) → PieceParts → List PlacedEvents → Type 0
AreSegmentsOf file piece segments = TellsSegments (file piece.file) piece.rank piece.first segments

-- ---- why a piece is refused

-- Where its bytes are told, a text stops a walk at a line for this cause, and the calls before it are typed.
abbrev pub StopsText : Option (List ℕ) → WalkCause NoMemory → ℕ → Type 0
StopsText None cause line = Unit {0}
StopsText (Some text) cause line = (calls : List TextCall) × IsSome (seen_in calls) × StopsWalk {F = NoMemory} (Some text) calls cause line

-- The reader of a text may fail at this line: the text begins with some calls, lines are taken whole up to that one, and
-- up to it the text gives no call more and has no fault.
pub record MayFailAt (text : Option (List ℕ)) (line : ℕ) : Type 0 where
  pub calls : List TextCall
  pub at : Position
  pub known : Option (List ℕ)
  pub read : HasRead text calls at known
  pub next : Position
  pub rest : Option (List ℕ)
  pub line_is : line ≡ next.line
  pub lines : CountsLines (at.line + 1) known next.line rest
  pub into : ReadsInto at known next rest

-- Where its bytes are told, and the cause is that its reader failed, it may fail at this line.
abbrev pub FailsAt : TextCause → Option (List ℕ) → ℕ → Type 0
FailsAt (reads.Line fault) text line = Unit {0}
FailsAt reads.Read None line = Unit {0}
FailsAt reads.Read (Some text) line = MayFailAt (Some text) line

-- A piece has a place at or past the last: its events from the Enter of its first call on do.
abbrev pub PassesPlaces : ℕ → Option (List ℕ) → Type 0
PassesPlaces first text = (events : List Event) × TellsEvents text events × HasPlacesPast first events

-- Why a piece is refused: its file can't be opened, so its text isn't known; its text is refused; or a place would be
-- past the last.
abbrev pub RefusesPiece : List ℕ → ℕ → Option (List ℕ) → RunFault → Type 0
RefusesPiece name first text Memory = Unit {0}
RefusesPiece name first text (File path) = IsNamed path name × (text ≡ None)
RefusesPiece name first text (Place path) = IsNamed path name × PassesPlaces first text
RefusesPiece name first text (Text cause path line) = IsNamed path name × (at : ℕ) × StopsText text (causes.Text (At line cause)) at × FailsAt cause text at
RefusesPiece name first text (Missing parameter path line) = IsNamed path name × StopsText text (causes.Missing parameter) line
RefusesPiece name first text (Wrong parameter path line) = IsNamed path name × StopsText text (causes.Wrong parameter) line
RefusesPiece name first text _ = ⊥
