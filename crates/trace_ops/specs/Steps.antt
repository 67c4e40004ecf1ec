-- The steps of a rank. A step is a call, or one part of a Start or Startall: each of these starts for itself (MPI 4.0,
-- 3.9).
use Rattle.std.specs.Prelude.{◌≡◌, ℕ, ℤ, ◌+◌, ◌^◌, Bool, true, ◌||◌, nat_lt, if◌then◌else◌, Option, Some, None, is_some, List, [], ◌∷◌, ◌++◌, length, slice_get, slice_index_or, pos}
use Rattle.std.specs.List.{cons_option}
use Rattle.std.specs.Option.{option_map}
use Rattle.mpi_model.specs.declared.call.Call.{Call}
use Rattle.mpi_model.specs.declared.call.Call.TheVariants.{Isend, Irecv, SendInit, RecvInit, Local}
use Rattle.mpi_model.specs.declared.event.OpName.{OpName}
use Rattle.trace_ops.specs.declared.completed.Completed.{Completed}
use Rattle.trace_ops.specs.Calls.{Entry}
use Rattle.trace_ops.specs.declared.held.Init.{Init as LentInit}
use Rattle.trace_ops.specs.declared.held.Part.{Part as Lent}
use Rattle.trace_ops.specs.Held.{AreInitsAt, Init, held_in, plain_init}
use Rattle.trace_ops.specs.Request.{completions, given_of, is_completed, is_init, is_posted, is_start, started_by}

-- a number that a Start or Startall lists, with the init that holds it
pub record Begun : Type 0 where
  pub request : ℤ
  pub init : Init

-- a step: the number of its call, its place in the list of a Startall, or else 0, its call, and what it starts of an
-- init
pub record Step : Type 0 where
  pub number : ℕ
  pub part : ℕ
  pub entry : Entry
  pub begun : Option Begun

-- a call that starts nothing of an init is one step
abbrev pub whole : ℕ → Entry → Step
whole n c = record { number = n; part = 0; entry = c; begun = None }

-- the part at a place of call n that starts what an init holds by this number
abbrev pub part_step : ℕ → ℕ → Entry → ℤ → Init → Step
part_step n part c x init = record { number = n; part = part; entry = c; begun = Some (record { request = x; init = init }) }

-- the part of call n that is lent, as a step
abbrev pub begun_step : ℕ → Entry → Lent → Step
begun_step n c p = part_step n p.part c p.request (plain_init p.init)

-- The part for the number x, behind these calls of which the last stands first: none where no init holds x. An `int`
-- counts the parts, so that one past 2^31 is none.
abbrev pub part_of : List Entry → Entry → ℕ → ℤ → Option Step
part_of before c part x = if nat_lt part (2 ^ 31) then option_map (part_step (length before) part c x) (held_in before x) else None

-- what is lent is the part that starts the number at a place of this list, where an init holds that
abbrev pub IsPartAt : List Entry → Entry → List ℤ → ℕ → Option Lent → Type 0
IsPartAt before c requests part lent = option_map (begun_step (length before) c) lent ≡ part_of before c part (slice_index_or requests part (pos 0))

-- whatever call lists these numbers, and whatever is before it, where these inits hold them
abbrev pub OfListed : List ℤ → List (Option LentInit) → (List Entry → Entry → Type 0) → Type 0
OfListed requests inits P = (before : List Entry) (c : Entry) → requests ≡ started_by c.call → AreInitsAt before c inits → P before c

-- the parts for these numbers, the first of which has this place
abbrev pub parts_from : List Entry → Entry → ℕ → List ℤ → List Step
parts_from before c part [] = []
parts_from before c part (x ∷ xs) = cons_option (part_of before c part x) (parts_from before c (part + 1) xs)

-- the steps of a call behind these
abbrev pub steps_at : List Entry → Entry → List Step
steps_at before c = if is_start c.call then parts_from before c 0 (started_by c.call) else whole (length before) c ∷ []

-- the steps of calls, behind others of which the last stands first
abbrev pub steps_from : List Entry → List Entry → List Step
steps_from before [] = []
steps_from before (c ∷ calls) = steps_at before c ++ steps_from (c ∷ before) calls

-- the steps of all calls of a rank
abbrev pub steps_of : List Entry → List Step
steps_of calls = steps_from [] calls

-- a step, and the steps that follow it
pub record Placed : Type 0 where
  pub step : Step
  pub later : List Step

-- each step, with those that follow it
abbrev pub placed : List Step → List Placed
placed [] = []
placed (s ∷ later) = record { step = s; later = later } ∷ placed later

-- the name of what a step starts
abbrev pub name_of : ℕ → Step → OpName
name_of rank s = record { rank = rank; call = s.number; part = s.part }

-- What an init describes starts as the nonblocking send or receive does (MPI 4.0, 3.9).
abbrev pub as_started : Call → Call
as_started (SendInit mode e) = Isend mode e
as_started (RecvInit e) = Irecv e
as_started call = Local

-- the call as which something starts, where a call starts it by an init
abbrev pub call_with : Entry → Option Begun → Call
call_with c None = c.call
call_with c (Some b) = as_started b.init.call

-- the call as which a step starts what it starts
abbrev pub starting : Step → Call
starting s = call_with s.entry s.begun

-- the call whose communicator it has: that of the init keeps its meaning, whatever the number names later
abbrev pub naming_with : ℕ → Option Begun → ℕ
naming_with n None = n
naming_with n (Some b) = b.init.number

-- the number of the call that names the communicator of a step
abbrev pub naming : Step → ℕ
naming s = naming_with s.number s.begun

-- the number that a step gives: a returned part of a Start or Startall gives its init's number anew, whatever the
-- outcome
abbrev pub given_with : Entry → Option Begun → Option ℤ
given_with c None = given_of c.call c.outs
given_with c (Some b) = if is_some c.outs then Some b.request else None

-- the number that a step gives, by its entry and the init that it starts, if any
abbrev pub given_by : Step → Option ℤ
given_by s = given_with s.entry s.begun

-- the number that a step posts: an init posts none
abbrev pub posted_by : Step → Option ℤ
posted_by s = if is_init s.entry.call then None else given_by s

-- the requests that a step completes
abbrev pub completed_by : Step → List Completed
completed_by s = completions s.entry.call s.entry.outs

-- The step ends the request x that was posted before: it completes it, frees it, or gives its number anew. (An init
-- that comes to hold x ends an earlier post; what holds x already stays.)
abbrev pub touches : ℤ → Step → Bool
touches x s = is_posted (given_by s) x || is_completed x (completed_by s)

-- a part of call n, which is a Start or a Startall
pub record IsPartOf (calls : List Entry) (n : ℕ) (s : Step) : Type 0 where
  pub number : s.number ≡ n
  pub at : slice_get calls n ≡ Some s.entry
  pub start : is_start s.entry.call ≡ true
