-- What is kept, while a rank's steps are gone through from the last to the first, of the steps behind.
use Rattle.std.specs.Prelude.{◌≡◌, ℕ, ℤ, ◌+◌, Bool, false, true, if◌then◌else◌, Option, Some, None, is_some, List, [], ◌∷◌, drop, length, slice_get}
use Rattle.std.specs.List.{list_any}
use Rattle.std.specs.Option.{option_map, option_and_then}
use Rattle.std.specs.Ordering.{int_eq}
use Rattle.mpi_model.specs.declared.call.Call.{Call}
use Rattle.mpi_model.specs.declared.outcome.Outs.{Outs}
use Rattle.mpi_model.specs.declared.told.Told.{Told}
use Rattle.mpi_model.specs.declared.told.Told.TheVariants.{Nothing, Source, Cancelled}
use Rattle.mpi_model.specs.Tells.{is_cancelled}
use Rattle.trace_ops.specs.declared.completed.Completed.{Completed}
use Rattle.trace_ops.specs.declared.touched.End.{End}
use Rattle.trace_ops.specs.declared.table.Touched.{Touched}
use Rattle.trace_ops.specs.declared.touched.Touch.{Touch}
use Rattle.trace_ops.specs.Calls.{Entry}
use Rattle.trace_ops.specs.Ended.{ended_by}
use Rattle.trace_ops.specs.Places.{completed_in, places_of}
use Rattle.trace_ops.specs.Request.{completions, given_in, given_of, is_completing, is_start}
use Rattle.trace_ops.specs.Steps.{IsPartOf, Step, given_by, touches, whole}
use Rattle.trace_ops.specs.Source.{told_at, told_in, told_by}
use Rattle.trace_ops.specs.Tables.{Becomes, kept_of}
use Rattle.trace_ops.specs.Trust.{cancel_of, has_cancel, said_by}

-- a call ends the number, and its completions from a place on tell of it
abbrev pub ends_at : ℕ → ℕ → Touch
ends_at call place = record { end = Some (record { call = call; place = place; void = false }); cancelled = false }

-- an end that a status calls cancelled
abbrev pub voided_end : End → End
voided_end e = record { call = e.call; place = e.place; void = true }

-- the call that ends the number says that it was cancelled
abbrev pub voided : Touch → Touch
voided t = record { end = option_map voided_end t.end; cancelled = t.cancelled }

-- what a completion at a place of a call makes of what is kept of its number
abbrev pub with_told : ℕ → ℕ → Told → Option Touch → Option Touch
with_told call place Nothing touch = touch
with_told call place (Source rank) touch = Some (ends_at call place)
with_told call place Cancelled touch = option_map voided touch

-- the place completes this number
abbrev pub is_completed_at : ℤ → Option Completed → Bool
is_completed_at x None = false
is_completed_at x (Some c) = int_eq c.request x

-- what one completion of a call makes of what is kept of the number
abbrev pub with_telling : ℕ → ℕ → ℤ → Completed → Option Touch → Option Touch
with_telling call place x c touch = if int_eq c.request x then with_told call place c.told touch else touch

-- what one place of a call makes of what is kept of the number
abbrev pub with_place : ℕ → ℕ → ℤ → Option Completed → Option Touch → Option Touch
with_place call place x None touch = touch
with_place call place x (Some c) touch = with_telling call place x c touch

-- what the places of a call, from one on, make of what is kept of the number
abbrev pub with_tellings : ℕ → ℕ → List (Option Completed) → ℤ → Option Touch → Option Touch
with_tellings call place [] x touch = touch
with_tellings call place (o ∷ places) x touch = with_place call place x o (with_tellings call (place + 1) places x touch)

-- what a call that completes what these places do, and tells nothing of it, makes of what is kept of the number
abbrev pub with_ends : ℕ → List (Option Completed) → ℤ → Option Touch → Option Touch
with_ends call places x touch = if list_any (is_completed_at x) places then Some (ends_at call (length places)) else touch

-- the place says that its request was cancelled
abbrev pub is_cancelled_at : Option Completed → Bool
is_cancelled_at None = false
is_cancelled_at (Some c) = is_cancelled c.told

-- one of these places says that its request was cancelled
abbrev pub is_any_cancelled : List (Option Completed) → Bool
is_any_cancelled places = list_any is_cancelled_at places

-- what the places of a call, from one on, make of what is kept of the number, where none says that it was cancelled
abbrev pub with_firsts : ℕ → ℕ → List (Option Completed) → ℤ → Option Touch → Option Touch
with_firsts call place [] x touch = touch
with_firsts call place (o ∷ places) x touch = if is_completed_at x o then Some (ends_at call place) else with_firsts call (place + 1) places x touch

-- the call that ends a number, where one does
abbrev pub end_of : Option Touch → Option End
end_of touch = option_and_then (λ t. t.end) touch

-- what a Cancel makes of what is kept of its number
abbrev pub marked : Option Touch → Touch
marked touch = record { end = end_of touch; cancelled = true }

-- a later Cancel names the number
abbrev pub is_marked : Option Touch → Bool
is_marked None = false
is_marked (Some t) = t.cancelled

-- a status says that the request was cancelled
abbrev pub is_void_end : Option End → Bool
is_void_end None = false
is_void_end (Some e) = e.void

-- the places of a call, none where there is no call
abbrev pub places_at : Option Entry → List (Option Completed)
places_at None = []
places_at (Some c) = places_of c.call c.outs

-- what a place tells of the request x
abbrev pub told_at_place : List ℕ → ℤ → Option Completed → Option ℕ
told_at_place members x None = None
told_at_place members x (Some c) = told_at members x c

-- the completions of a call, from the first place on that tells a source of the number
abbrev pub tellings_of : List Entry → Option End → List Completed
tellings_of calls None = []
tellings_of calls (Some e) = completed_in (drop e.place (places_at (slice_get calls e.call)))

-- the number of a call, where that completes the requests that it touches
abbrev pub completing : ℕ → Option Entry → Option ℕ
completing n None = None
completing n (Some c) = if is_completing c then Some n else None

-- the call whose outcome completes a request that this call ends
abbrev pub ended_at : List Entry → Option End → Option ℕ
ended_at calls None = None
ended_at calls (Some e) = completing e.call (slice_get calls e.call)

-- Of each number it is kept which call of a later step touches it first, with what that tells, and whether a Cancel
-- names it before. The calls are all those of the rank.
pub record Follows (calls : List Entry) (later : List Step) (kept : ℤ → Option Touch) : Type 0 where
  pub ended : (x : ℤ) → is_some (end_of (kept x)) ≡ list_any (touches x) later
  pub by : (x : ℤ) → ended_at calls (end_of (kept x)) ≡ ended_by x later
  pub cancelled : (x : ℤ) → is_marked (kept x) ≡ has_cancel x later
  pub void : (x : ℤ) → is_void_end (end_of (kept x)) ≡ is_cancelled (said_by x later)
  pub told : (members : List ℕ) (x : ℤ) → told_in members x (tellings_of calls (end_of (kept x))) ≡ told_by members x later

-- whatever is kept of whatever steps of these calls
abbrev pub OfFollowed : List Entry → (List Step → (ℤ → Option Touch) → Type 0) → Type 0
OfFollowed calls P = (later : List Step) (kept : ℤ → Option Touch) → Follows calls later kept → P later kept

-- the touch is what was kept of the number, where there is one
abbrev pub IsKept : Option ℤ → (ℤ → Option Touch) → Option Touch → Type 0
IsKept given kept touch = (x : ℤ) → given ≡ Some x → touch ≡ kept x

-- The step is noted: of whatever steps behind it something was kept, now it is kept of both.
abbrev pub Notes : List Entry → Step → (old new : Touched) → Type 0
Notes calls s old new = (later : List Step) → Follows calls later (kept_of old) → Follows calls (s ∷ later) (kept_of new)

-- the number that a place completes, if one, is noted
abbrev pub NotesEnd : ℕ → ℕ → Option Completed → (old new : Touched) → Type 0
NotesEnd call place completed old new = Becomes (λ x touch. if is_completed_at x completed then Some (ends_at call place) else touch) (kept_of old) (kept_of new)

-- call n, which is one step, is noted
abbrev pub NotesCall : ℕ → Entry → (old new : Touched) → Type 0
NotesCall n c old new = (calls : List Entry) → slice_get calls n ≡ Some c → Notes calls (whole n c) old new

-- a part of call n that gives this number, if one, is noted
abbrev pub NotesPart : ℕ → Option ℤ → (old new : Touched) → Type 0
NotesPart n given old new = (calls : List Entry) (s : Step) → IsPartOf calls n s → given ≡ given_by s → Notes calls s old new

-- The call has to do with no request, whatever its outcome: it gives no number, starts, completes and frees none, and
-- cancels none.
pub record IsWithoutRequest (call : Call) : Type 0 where
  pub starts : is_start call ≡ false
  pub gives : (outs : Option Outs) → given_of call outs ≡ None
  pub completes : (outs : Option Outs) → completions call outs ≡ []
  pub cancels : cancel_of call ≡ None

-- The call cancels no request, and gives no number.
pub record IsQuiet (c : Entry) : Type 0 where
  pub cancels_none : cancel_of c.call ≡ None
  pub gives_none : given_in c ≡ None

-- Call n, which cancels no request and gives no number, is noted.
abbrev pub NotesQuiet : ℕ → Entry → (old new : Touched) → Type 0
NotesQuiet n c old new = IsQuiet c → NotesCall n c old new
