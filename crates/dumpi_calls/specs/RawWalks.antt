-- What a walk over a text does whose calls are handed on as they stand there.
use Rattle.std.specs.Prelude.{◌≡◌, ℕ, List, [], ◌∷◌, ◌++◌, length, Option, Some, None, Result, Ok, IfOk}
use Rattle.mpi_model.specs.declared.call.Call.{Call}
use Rattle.dumpi_text.specs.Call.{TextCall}
use Rattle.dumpi_text.specs.Grammar.{Complete}
use Rattle.dumpi_text.specs.Reading.{MeansAll}
use Rattle.dumpi_text.specs.Skips.{IsFirstSkipped}
use Rattle.dumpi_text.specs.Standing.{TextState}
use Rattle.dumpi_text.specs.declared.step.Position.{Position}
use Rattle.dumpi_calls.specs.Rows.{typed}
use Rattle.dumpi_calls.specs.Walks.{IsRead, StopsWalk, open_line, unfinished_line}
use Rattle.dumpi_calls.specs.declared.fault.WalkFault.{WalkFault}
use Rattle.dumpi_calls.specs.declared.typing.TypedCall.{TypedCall}
use Rattle.dumpi_calls.specs.declared.walking.HandedCall.{HandedCall}
use Rattle.dumpi_calls.specs.declared.walking.Walked.{Walked}

-- Calls were taken in their order, each in the state that the ones before it left.
abbrev pub Taken : {S : Type 0} → (S → TextCall → Call → S → Type 0) → List TextCall → S → S → Type 0
Taken step [] old new = new ≡ old
Taken {S = S} step (raw ∷ raws) old new = (call : TypedCall) × (mid : S) × (typed raw ≡ Ok call) × step old raw call.call mid × Taken step raws mid new

-- These calls were handed to the sink as they stand, in order, and are counted.
pub record HandedRaw {S : Type 0} (step : S → TextCall → Call → S → Type 0) (calls : List TextCall) (old new : S) (count : ℕ) : Type 0 where
  pub taken : Taken step calls old new
  pub counted : count ≡ length calls

-- The sink took the call as it stands.
pub record TakesRaw {S : Type 0} (step : S → TextCall → Call → S → Type 0) (raw : TextCall) (old new : S) : Type 0 where
  pub call : TypedCall
  pub typed_as : typed raw ≡ Ok call
  pub taken : step old raw call.call new

-- One call more was read, and the sink took it.
pub record TakesNextRaw {S : Type 0} (step : S → TextCall → Call → S → Type 0) (text : Option (List ℕ)) (calls : List TextCall) (open_at : Option ℕ) (view : TextState) (old new : S) : Type 0 where
  pub raw : TextCall
  pub read : IsRead text (calls ++ raw ∷ []) view
  pub takes : TakesRaw step raw old new
  pub open_is : open_at ≡ open_line raw

-- The sink took one call more, which has returned or not; or the text was over.
abbrev pub AdvancesRaw : {S : Type 0} → (S → TextCall → Call → S → Type 0) → Option (List ℕ) → List TextCall → Option HandedCall → TextState → S → S → Type 0
AdvancesRaw step text calls (Some handed) view old new = TakesNextRaw step text calls handed.open_line view old new
AdvancesRaw step text calls None view old new = MeansAll text calls (Complete view.told) × (new ≡ old)

-- The sink took the next call as it stands, or the text was over, whichever text is walked and whichever of its calls
-- were read before.
abbrev pub StepsOnRaw : {S F : Type 0} → (S → TextCall → Call → S → Type 0) → TextState → Result (Option HandedCall) (WalkFault F) → TextState → S → S → Type 0
StepsOnRaw step texts result left old new =
    (text : Option (List ℕ)) (before : List TextCall) → IsRead text before texts → IfOk result (λ found. AdvancesRaw step text before found left old new)

-- The whole text was walked.
pub record IsWalkedRaw {S : Type 0} (step : S → TextCall → Call → S → Type 0) (text : Option (List ℕ)) (old new : S) (walked : Walked) : Type 0 where
  pub calls : List TextCall
  pub at : Position
  pub means : MeansAll text calls (Complete at)
  pub handed : HandedRaw step calls old new walked.calls
  pub skipped : walked.skipped ≡ at.skipped
  pub first_skipped : IsFirstSkipped text walked.first_skipped
  pub unfinished : walked.unfinished ≡ unfinished_line calls

-- The walk stopped at the first call that can't be had or is refused, and exactly the calls before it were handed on.
pub record IsStoppedRaw {S F : Type 0} (step : S → TextCall → Call → S → Type 0) (text : Option (List ℕ)) (old new : S) (fault : WalkFault F) : Type 0 where
  pub calls : List TextCall
  pub handed : HandedRaw step calls old new fault.calls
  pub stops : StopsWalk {F = F} text calls fault.cause fault.line
