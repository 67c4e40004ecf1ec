-- What a walk over a text does.
use Rattle.std.specs.Prelude.{◌≡◌, ◌⊎◌, ℕ, ◌+◌, List, [], ◌∷◌, ◌++◌, length, Option, Some, None, Ok, Err, IsSome, IsOk}
use Rattle.std.specs.Io.KnownBytes.{prepend_known}
use Rattle.mpi_model.specs.Failures.{one_more}
use Rattle.mpi_model.specs.Times.{Times}
use Rattle.dumpi_text.specs.Call.{TextCall}
use Rattle.dumpi_text.specs.Grammar.{Complete, Stopped}
use Rattle.dumpi_text.specs.Kept.{kept_call}
use Rattle.dumpi_text.specs.Lines.{CountsLines}
use Rattle.dumpi_text.specs.Next.{ReadsInto}
use Rattle.dumpi_text.specs.Reading.{HasRead, MeansAll}
use Rattle.dumpi_text.specs.Skips.{IsFirstSkipped}
use Rattle.dumpi_text.specs.Source.{rest_of}
use Rattle.dumpi_text.specs.Standing.{TextState}
use Rattle.dumpi_text.specs.declared.standing.TextStanding.TheVariants.{Reading, Finished}
use Rattle.dumpi_text.specs.declared.fault.LineFault.TheVariants.{Truncated}
use Rattle.dumpi_text.specs.declared.fault.TextCause.{TextCause}
use Rattle.dumpi_text.specs.declared.fault.TextCause.TheVariants as causes
use Rattle.dumpi_text.specs.declared.fault.TextFault.{TextFault}
use Rattle.dumpi_text.specs.declared.fault.TextFault.TheVariants as faults
use Rattle.dumpi_text.specs.declared.step.Position.{Position}
use Rattle.dumpi_calls.specs.InPlace.{usual_name}
use Rattle.dumpi_calls.specs.Looked.{looked_choice}
use Rattle.dumpi_calls.specs.Rows.{row, row_of, typed}
use Rattle.dumpi_calls.specs.Seen.{Seen, after, seen_by, seen_in}
use Rattle.dumpi_calls.specs.declared.function.Function.{Function}
use Rattle.dumpi_calls.specs.declared.parameter.CallFault.TheVariants as refusals
use Rattle.dumpi_calls.specs.declared.parameter.Parameter.{Parameter}
use Rattle.dumpi_calls.specs.declared.typing.TypedCall.{TypedCall}
use Rattle.dumpi_calls.specs.declared.fault.WalkCause.{WalkCause}
use Rattle.dumpi_calls.specs.declared.fault.WalkCause.TheVariants.{Text, Missing, Wrong, Sink, Memory}
use Rattle.dumpi_calls.specs.declared.fault.WalkFault.{WalkFault}
use Rattle.dumpi_calls.specs.declared.walking.HandedCall.{HandedCall}
use Rattle.dumpi_calls.specs.declared.walking.Walked.{Walked}

-- ---- a text that is read

-- These calls were read of a text, and it is read on, or they are all that it means; the line that it tells is the last
-- one's.
pub record IsRead (text : Option (List ℕ)) (calls : List TextCall) (view : TextState) : Type 0 where
  pub stands : ((view.standing ≡ Reading) × HasRead text calls view.at (rest_of view.rest)) ⊎ ((view.standing ≡ Finished) × MeansAll text calls (Complete view.at))
  pub told : view.told ≡ view.at

-- One call more was read, or the text was over.
abbrev pub Follows : Option (List ℕ) → List TextCall → Option TextCall → TextState → Type 0
Follows text calls (Some call) view = IsRead text (calls ++ call ∷ []) view
Follows text calls None view = MeansAll text calls (Complete view.told)

-- One call more was read, of which this is kept, or the text was over.
unfoldable pub FollowsKept : Option (List ℕ) → List TextCall → Option TextCall → TextState → Type 0
FollowsKept text calls (Some kept) view = (raw : TextCall) × (kept ≡ kept_call looked_choice raw) × IsRead text (calls ++ raw ∷ []) view
FollowsKept text calls None view = MeansAll text calls (Complete view.told)

-- the text begins with these calls, and the last of them ends at this line (0 before the first)
abbrev pub BeginsTo : Option (List ℕ) → List TextCall → ℕ → Type 0
BeginsTo text calls line = (at : Position) × (rest : Option (List ℕ)) × HasRead text calls at rest × (line ≡ at.line)

-- the text begins with these calls, or they are all that it means, where it is told
abbrev pub Begins : Option (List ℕ) → List TextCall → Type 0
Begins text calls = ((at : Position) × (rest : Option (List ℕ)) × HasRead text calls at rest) ⊎ ((at : Position) × MeansAll text calls (Complete at))

-- The text stops at a line after these calls, where it is told, with the fault of that line; or its reader failed
-- there.
abbrev pub StopsAfter : Option (List ℕ) → List TextCall → TextCause → ℕ → Type 0
StopsAfter text calls causes.Read line = Begins text calls
StopsAfter text calls (causes.Line fault) line = (at : Position) × MeansAll text calls (Stopped fault at) × (line ≡ at.line)

-- A fault that says that the text's reader failed.
abbrev pub IsReadFault : TextFault → Type 0
IsReadFault fault = (line : ℕ) × (fault ≡ faults.At line causes.Read)

-- There is no next call after these.
abbrev pub RefusesNext : Option (List ℕ) → List TextCall → TextFault → ℕ → Type 0
RefusesNext text calls faults.Memory line = BeginsTo text calls line
RefusesNext text calls faults.Ended line = ⊥
RefusesNext text calls (faults.At at cause) line = (at ≡ line) × StopsAfter text calls cause line

-- The reader fails after these calls of its text, once more than before, on the line after the last that was taken
-- whole: `new` is the reader then, and the bytes at hand are those that it gave and that no whole line took. Up to that
-- line the text has no call more and no fault.
pub record FailsAfter {R : Type 0} (left : R → Option (List ℕ)) (failures : R → ℕ) (text : Option (List ℕ)) (before : ℕ) (calls : List TextCall) (line : ℕ) : Type 0 where
  pub at : Position
  pub known : Option (List ℕ)
  pub read : HasRead text calls at known
  pub new : R
  pub once : failures new ≡ one_more before
  pub at_hand : List ℕ
  pub next : Position
  pub line_is : line ≡ next.line
  pub lines : CountsLines (at.line + 1) known next.line (prepend_known at_hand (left new))
  pub into : ReadsInto at known next (prepend_known at_hand (left new))

-- ---- calls

-- a line, unless the call that begins there has returned
abbrev pub unless_returned : Option Times → ℕ → Option ℕ
unless_returned None line = Some line
unless_returned (Some stamp) line = None

-- the line where a call begins, where it has not returned
abbrev pub open_line : TextCall → Option ℕ
open_line call = unless_returned call.exit call.line

-- the line where the last of the calls begins, where it has not returned
abbrev pub unfinished_line : List TextCall → Option ℕ
unfinished_line [] = None
unfinished_line (call ∷ []) = open_line call
unfinished_line (call ∷ other ∷ calls) = unfinished_line (other ∷ calls)

-- The sink took the call.
pub record Takes {S : Type 0} (step : S → Seen → S) (raw : TextCall) (old new : S) : Type 0 where
  pub call : TypedCall
  pub typed_as : typed raw ≡ Ok call
  pub state : new ≡ step old (seen_by (row_of raw) call)

-- A call of a text that was read whole: its row, what it is typed as, the line where it begins, and that it has
-- returned.
pub record IsTypedAs (raw : TextCall) (function : Function) (call : TypedCall) (line : ℕ) : Type 0 where
  pub row_is : row_of raw ≡ row function (usual_name function)
  pub typed_as : typed raw ≡ Ok call
  pub line_is : raw.line ≡ line
  pub exit_is : IsSome raw.exit

-- One call more was read whole.
pub record FollowsWhole (text : Option (List ℕ)) (calls : List TextCall) (function : Function) (call : TypedCall) (line : ℕ) (view : TextState) : Type 0 where
  pub raw : TextCall
  pub read : IsRead text (calls ++ raw ∷ []) view
  pub is : IsTypedAs raw function call line

-- One call more was read, and the sink took it.
pub record TakesNext {S : Type 0} (step : S → Seen → S) (text : Option (List ℕ)) (calls : List TextCall) (open_at : Option ℕ) (view : TextState) (old new : S) : Type 0 where
  pub raw : TextCall
  pub read : IsRead text (calls ++ raw ∷ []) view
  pub takes : Takes step raw old new
  pub open_is : open_at ≡ open_line raw

-- The sink took one call more, which has returned or not; or the text was over.
abbrev pub Advances : {S : Type 0} → (S → Seen → S) → Option (List ℕ) → List TextCall → Option HandedCall → TextState → S → S → Type 0
Advances step text calls (Some handed) view old new = TakesNext step text calls handed.open_line view old new
Advances step text calls None view old new = MeansAll text calls (Complete view.told) × (new ≡ old)

-- Why a call is refused, and at which line. One that was cut off before its last entry parameter was written is a
-- truncated text, whose line is its last; any other is refused at its entering line.
abbrev pub RefusesCall : {F : Type 0} → TextCall → WalkCause F → ℕ → Type 0
RefusesCall raw (Text fault) line = (fault ≡ faults.At raw.last_line (causes.Line Truncated)) × (line ≡ raw.last_line) × (raw.exit ≡ None)
    × ((parameter : Parameter) × (typed raw ≡ Err (refusals.Missing parameter)))
RefusesCall raw (Missing parameter) line = (line ≡ raw.line) × IsSome raw.exit × (typed raw ≡ Err (refusals.Missing parameter))
RefusesCall raw (Wrong parameter) line = (line ≡ raw.line) × (typed raw ≡ Err (refusals.Wrong parameter))
RefusesCall raw (Sink fault) line = (line ≡ raw.line) × IsOk (typed raw)
RefusesCall raw Memory line = line ≡ raw.line

-- ---- walks

-- A walk stops since the text's reader failed.
abbrev pub IsReadStop : {F : Type 0} → WalkCause F → Type 0
IsReadStop {F = F} cause = (fault : TextFault) × (cause ≡ Text fault) × IsReadFault fault

-- The reader of the text that is walked fails after so many calls, at this line.
abbrev pub FailsIn : {R : Type 0} → (R → Option (List ℕ)) → (R → ℕ) → R → ℕ → ℕ → Type 0
FailsIn left failures reader count line = (calls : List TextCall) × (count ≡ length calls) × FailsAfter left failures (left reader) (failures reader) calls line

-- These calls were handed to the sink, in order, and are counted.
pub record HandedOn {S : Type 0} (step : S → Seen → S) (calls : List TextCall) (old new : S) (count : ℕ) : Type 0 where
  pub seen : List Seen
  pub typed_as : seen_in calls ≡ Some seen
  pub state : new ≡ after step old seen
  pub counted : count ≡ length calls

-- The whole text was walked.
pub record IsWalked {S : Type 0} (step : S → Seen → S) (text : Option (List ℕ)) (old new : S) (walked : Walked) : Type 0 where
  pub calls : List TextCall
  pub at : Position
  pub means : MeansAll text calls (Complete at)
  pub handed : HandedOn step calls old new walked.calls
  pub skipped : walked.skipped ≡ at.skipped
  pub first_skipped : IsFirstSkipped text walked.first_skipped
  pub unfinished : walked.unfinished ≡ unfinished_line calls

-- The text has no next call after these.
abbrev pub LacksNext : {F : Type 0} → Option (List ℕ) → List TextCall → WalkCause F → ℕ → Type 0
LacksNext text calls (Text fault) line = RefusesNext text calls fault line
LacksNext text calls Memory line = BeginsTo text calls line
LacksNext text calls (Missing parameter) line = ⊥
LacksNext text calls (Wrong parameter) line = ⊥
LacksNext text calls (Sink fault) line = ⊥

-- Why a walk stops after these calls: the text has no next one, or the next one is refused.
abbrev pub StopsWalk : {F : Type 0} → Option (List ℕ) → List TextCall → WalkCause F → ℕ → Type 0
StopsWalk {F = F} text calls cause line = LacksNext {F = F} text calls cause line ⊎ ((raw : TextCall) × Begins text (calls ++ raw ∷ []) × RefusesCall {F = F} raw cause line)

-- The walk stopped at the first call that can't be had or is refused, and exactly the calls before it were handed on.
pub record IsStopped {S F : Type 0} (step : S → Seen → S) (text : Option (List ℕ)) (old new : S) (fault : WalkFault F) : Type 0 where
  pub calls : List TextCall
  pub handed : HandedOn step calls old new fault.calls
  pub stops : StopsWalk {F = F} text calls fault.cause fault.line
