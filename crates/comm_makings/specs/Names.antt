-- Which communicator of a rank a number names, from call to call: each rank numbers its communicators for itself, and a
-- number comes back once its communicator is freed (MPI 4.0, 7.4.3).
use Rattle.std.specs.Prelude.{ℕ, ◌+◌, ◌-◌, ◌^◌, ◌==◌, ◌||◌, ◌++◌, Bool, true, false, List, [], ◌∷◌, Option, Some, None, min, cond, slice_get, slice_set}
use Rattle.mpi_model.specs.declared.layout.comm.Stretch.{Stretch}
use Rattle.comm_makings.specs.declared.calls.Given.{Given}
use Rattle.comm_makings.specs.declared.calls.Given.TheVariants as givens
use Rattle.comm_makings.specs.declared.calls.GroupName.{GroupName}
use Rattle.comm_makings.specs.declared.calls.GroupName.TheVariants as named
use Rattle.comm_makings.specs.declared.handle.Gives.{Gives}
use Rattle.comm_makings.specs.declared.handle.Gives.TheVariants as gives
use Rattle.comm_makings.specs.declared.handle.GroupAt.{GroupAt}
use Rattle.comm_makings.specs.declared.handle.GroupAt.TheVariants as groups

-- a number over all calls
abbrev pub always : ℕ → Stretch
always number = record { number = number; first = 0; end = None }

-- one more, up to the greatest number of a call
abbrev pub next_call : ℕ → ℕ
next_call call = min (call + 1) (2 ^ 64 - 1)

-- a number from the call behind this one on
abbrev pub from_next : ℕ → ℕ → Stretch
from_next call number = record { number = number; first = next_call call; end = None }

-- the number of MPI_COMM_SELF, where it is told
abbrev pub is_own : Option ℕ → ℕ → Bool
is_own None number = false
is_own (Some own) number = number == own

-- the number of the world or of MPI_COMM_SELF
abbrev pub is_taken : ℕ → Option ℕ → ℕ → Bool
is_taken world own number = (number == world) || is_own own number

-- the group of a number, by the call that gave it, where one did
abbrev pub given_at : Option ℕ → GroupAt
given_at None = groups.Unknown
given_at (Some call) = groups.Given call

-- the group that a name means, where this says which call gave the group of each number
abbrev pub group_at : (ℕ → Option ℕ) → GroupName → GroupAt
group_at given named.Empty = groups.Empty
group_at given named.Unknown = groups.Unknown
group_at given (named.Number number) = given_at (given number)

-- The handle that stands at this place, where one does, ends before a call.
abbrev pub ended_at : ℕ → ℕ → Option Stretch → List Stretch → List Stretch
ended_at call place None handles = handles
ended_at call place (Some handle) handles = slice_set handles place (record { number = handle.number; first = handle.first; end = Some call })

-- the handle at this place ends before a call
abbrev pub ended : ℕ → Option ℕ → List Stretch → List Stretch
ended call None handles = handles
ended call (Some place) handles = ended_at call place (slice_get handles place) handles

-- A number names nothing from a call on: those of the world and of MPI_COMM_SELF name them in all calls.
abbrev pub handles_ended : Bool → ℕ → Option ℕ → List Stretch → List Stretch
handles_ended taken call place handles = cond taken handles (ended call place handles)

-- An ended number names nothing, unless it is the world's or that of MPI_COMM_SELF; the others mean what they meant.
abbrev pub name_ended : Bool → ℕ → (ℕ → Option ℕ) → ℕ → Option ℕ
name_ended taken number before m = cond taken (before m) (cond (number == m) None (before m))

-- what a call gives: a number that is another's for all calls tells nothing
abbrev pub gives_of : (ℕ → Bool) → Bool → Given → ℕ → Gives
gives_of taken false given place = gives.Nothing
gives_of taken true givens.Null place = gives.Null
gives_of taken true givens.Unknown place = gives.Unknown
gives_of taken true (givens.Number number) place = cond (taken number) (gives.Taken place) (gives.Handle place)

-- the number that a call gives
abbrev pub number_given : Bool → Given → Option ℕ
number_given false given = None
number_given true givens.Null = None
number_given true givens.Unknown = None
number_given true (givens.Number number) = Some number

-- Behind the call that gives it a number names the new communicator, and in the call still the one before.
abbrev pub name_after : (ℕ → Bool) → Option ℕ → ℕ → (ℕ → Option ℕ) → ℕ → Option ℕ
name_after taken None place before m = before m
name_after taken (Some number) place before m = cond (taken number) (before m) (cond (number == m) (Some place) (before m))

-- the handles behind a call that gives a number: the one that it named before is ended, and a new one begins
abbrev pub handles_after : (ℕ → Bool) → Option ℕ → ℕ → (ℕ → Option ℕ) → List Stretch → List Stretch
handles_after taken None call before handles = handles
handles_after taken (Some number) call before handles = handles_ended (taken number) (next_call call) (before number) handles ++ from_next call number ∷ []
