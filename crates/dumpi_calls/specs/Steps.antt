-- What one step of a walk answers, whichever text is walked and whichever of its calls were read before.
use Rattle.std.specs.Prelude.{ℕ, Bool, List, Option, Result, IfErr, IfOk, IfSome}
use Rattle.dumpi_text.specs.Call.{TextCall}
use Rattle.dumpi_text.specs.Shown.{put_in}
use Rattle.dumpi_text.specs.Standing.{TextState}
use Rattle.dumpi_text.specs.declared.fault.TextFault.{TextFault}
use Rattle.dumpi_calls.specs.Seen.{Seen}
use Rattle.dumpi_calls.specs.Walks.{Advances, FailsAfter, Follows, FollowsKept, FollowsWhole, IsRead, IsReadFault, IsReadStop, IsTypedAs, LacksNext, RefusesCall, RefusesNext, StopsWalk, Takes}
use Rattle.dumpi_calls.specs.declared.fault.WalkCause.{WalkCause}
use Rattle.dumpi_calls.specs.declared.fault.WalkFault.{WalkFault}
use Rattle.dumpi_calls.specs.declared.in_place.Whole.{Whole}
use Rattle.dumpi_calls.specs.declared.walking.HandedCall.{HandedCall}

-- ---- the next call of a text

-- The next call was put in this place, or the text was over.
abbrev pub GoesOn : TextState → Result Bool TextFault → TextCall → TextState → Type 0
GoesOn old result raw new = (text : Option (List ℕ)) (calls : List TextCall) → IsRead text calls old → IfOk result (λ found. Follows text calls (put_in found raw) new)

-- What is kept of the next call was put in this place, or the text was over.
abbrev pub GoesOnKept : TextState → Result Bool TextFault → TextCall → TextState → Type 0
GoesOnKept old result raw new = (text : Option (List ℕ)) (calls : List TextCall) → IsRead text calls old → IfOk result (λ found. FollowsKept text calls (put_in found raw) new)

-- The next call is the one that was read whole, and begins at the line that is told with it.
abbrev pub GoesOnWhole : TextState → Option (Whole × ℕ) → TextState → Type 0
GoesOnWhole old result new =
    (text : Option (List ℕ)) (calls : List TextCall) → IsRead text calls old → IfSome result (λ x. FollowsWhole text calls x.0.function x.0.call x.1 new)

-- A fault says why the text has no next call.
abbrev pub EndsAtFault : TextState → Result Bool TextFault → TextState → Type 0
EndsAtFault old result new = (text : Option (List ℕ)) (calls : List TextCall) → IsRead text calls old → IfErr result (λ fault. RefusesNext text calls fault new.told.line)

-- Where the fault is its reader's, the reader failed after the calls that were read.
abbrev pub FailsAtFault : {R : Type 0} → (R → Option (List ℕ)) → (R → ℕ) → TextState → Result Bool TextFault → TextState → Type 0
FailsAtFault left failures old result new =
    (text : Option (List ℕ)) (calls : List TextCall) → IsRead text calls old
    → IfErr result (λ fault. IsReadFault fault → FailsAfter left failures text old.rest.failures calls new.told.line)

-- What a fault at a line says of the text, the cause that is made of it says at its own line.
abbrev pub LacksSo : {F : Type 0} → TextFault → ℕ → WalkCause F → ℕ → Type 0
LacksSo {F = F} fault line cause at =
    (text : Option (List ℕ)) (before : List TextCall) → RefusesNext text before fault line → LacksNext {F = F} text before cause at

-- ---- a call that was read whole

-- The sink took any call of the text that is typed so.
abbrev pub TakesTyped : {S F : Type 0} → (S → Seen → S) → Whole → ℕ → Result (Unit {0}) (WalkFault F) → S → S → Type 0
TakesTyped step whole line result old new = (raw : TextCall) → IsTypedAs raw whole.function whole.call line → IfOk result (λ done. Takes step raw old new)

-- Any call of the text that is typed so is refused for this.
abbrev pub RefusesTyped : {F : Type 0} → Whole → ℕ → Result (Unit {0}) (WalkFault F) → Type 0
RefusesTyped {F = F} whole line result =
    (raw : TextCall) → IsTypedAs raw whole.function whole.call line → IfErr result (λ fault. RefusesCall {F = F} raw fault.cause fault.line)

-- ---- one call more of a walk

-- The sink took the next call, or the text was over.
abbrev pub StepsOn : {S F : Type 0} → (S → Seen → S) → TextState → Result (Option HandedCall) (WalkFault F) → TextState → S → S → Type 0
StepsOn step texts result left old new =
    (text : Option (List ℕ)) (before : List TextCall) → IsRead text before texts → IfOk result (λ found. Advances step text before found left old new)

-- The walk stops there: the text has no next call, or that one is refused.
abbrev pub StopsThere : {F : Type 0} → TextState → Result (Option HandedCall) (WalkFault F) → Type 0
StopsThere {F = F} texts result =
    (text : Option (List ℕ)) (before : List TextCall) → IsRead text before texts → IfErr result (λ fault. StopsWalk {F = F} text before fault.cause fault.line)

-- Where it stops since the text's reader failed, the reader failed after the calls that were read.
abbrev pub FailsThere : {R F : Type 0} → (R → Option (List ℕ)) → (R → ℕ) → TextState → Result (Option HandedCall) (WalkFault F) → Type 0
FailsThere {F = F} left failures texts result =
    (text : Option (List ℕ)) (before : List TextCall) → IsRead text before texts
    → IfErr result (λ fault. IsReadStop {F = F} fault.cause → FailsAfter left failures text texts.rest.failures before fault.line)
