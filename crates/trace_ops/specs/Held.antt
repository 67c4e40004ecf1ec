-- Which init holds a request number (MPI 4.0, 3.9).
use Rattle.std.specs.Prelude.{◌≡◌, ℕ, ℤ, Bool, ◌||◌, if◌then◌else◌, Option, Some, None, List, [], ◌∷◌, ◌++◌, length, map}
use Rattle.std.specs.Option.{option_map}
use Rattle.mpi_model.specs.declared.call.Call.{Call}
use Rattle.trace_ops.specs.declared.held.Init.{Init as Lent}
use Rattle.trace_ops.specs.Calls.{Entry, IsCallAt}
use Rattle.trace_ops.specs.Request.{freed_of, given_of, is_init, is_posted, started_by}

-- an init that has returned: its call, with its number
pub record Init : Type 0 where
  pub number : ℕ
  pub call : Call

-- A call changes what holds the number x: it gives x, to an operation or as an init, or frees it. Starts and
-- completions leave an init its number.
abbrev pub changes_hold : ℤ → Entry → Bool
changes_hold x c = is_posted (given_of c.call c.outs) x || is_posted (freed_of c.call c.outs) x

-- what holds a number that call n gave or freed: call n, where that is an init
abbrev pub hold_by : ℕ → Entry → Option Init
hold_by n c = if is_init c.call then Some (record { number = n; call = c.call }) else None

-- The init that holds the number x after these calls, of which the last stands first: the last of them that changes
-- this decides. The call before which others stand has their count as its number.
abbrev pub held_in : List Entry → ℤ → Option Init
held_in [] x = None
held_in (c ∷ before) x = if changes_hold x c then hold_by (length before) c else held_in before x

-- an init that is lent, as plain data
abbrev pub plain_init : Lent → Init
plain_init i = record { number = i.number; call = i.call.now }

-- By number, the init that holds it after these calls, of which the last stands first.
abbrev pub Holds : List Entry → (ℤ → Option Lent) → Type 0
Holds before kept = (x : ℤ) → option_map plain_init (kept x) ≡ held_in before x

-- Call n is followed: what was kept of the calls before it is now of both.
abbrev pub HoldsNext : ℕ → Entry → (old new : ℤ → Option Lent) → Type 0
HoldsNext n c old new = (before : List Entry) → length before ≡ n → Holds before old → Holds (c ∷ before) new

-- The call at a place is followed, whatever its outcome.
abbrev pub HoldsPast : List Entry → ℕ → (old new : ℤ → Option Lent) → Type 0
HoldsPast calls n old new = (c : Entry) → IsCallAt calls n c → HoldsNext n c old new

-- what holds the numbers that a Start or Startall lists, behind these calls
abbrev pub inits_at : List Entry → Entry → List (Option Init)
inits_at before c = map (held_in before) (started_by c.call)

-- the inits, as they are lent, that hold the numbers which the call lists
abbrev pub AreInitsAt : List Entry → Entry → List (Option Lent) → Type 0
AreInitsAt before c inits = map (option_map plain_init) inits ≡ inits_at before c

-- the same of all calls that follow
abbrev pub inits_from : List Entry → List Entry → List (Option Init)
inits_from before [] = []
inits_from before (c ∷ calls) = inits_at before c ++ inits_from (c ∷ before) calls
