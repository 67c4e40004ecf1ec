-- What the calls of a text say of communicators and groups, windows and files.
use Rattle.std.specs.Prelude.{◌≡◌, ◌<◌, ℕ, ◌+◌, ◌-◌, ◌^◌, Bool, false, not, ◌&&◌, List, [], ◌∷◌, ◌++◌, Option, Some, None, Ok, codes, is_some, length, nat_eq, option_and_then, if◌then◌else◌}
use Rattle.std.specs.Str.{bytes_eq}
use Rattle.std.specs.Map.{lookup}
use Rattle.mpi_model.specs.Failures.{one_more}
use Rattle.mpi_model.specs.declared.call.Call.{Call}
use Rattle.mpi_model.specs.declared.object.Object.{Object}
use Rattle.mpi_model.specs.declared.object.Object.TheVariants as objects
use Rattle.dumpi_text.specs.Call.{Param, TextCall, pair_at}
use Rattle.dumpi_calls.specs.RawWalks.{Taken}
use Rattle.dumpi_calls.specs.Rows.{typed}
use Rattle.dumpi_calls.specs.declared.typing.TypedCall.{TypedCall}
use Rattle.comm_makings.specs.declared.calls.CommCall.{CommCall}
use Rattle.comm_makings.specs.declared.calls.Uses.{Uses}
use Rattle.comm_calls.specs.Actions.{IsAction}
use Rattle.comm_calls.specs.Functions.{function_of}
use Rattle.comm_calls.specs.Numbers.{beside, natural_in}
use Rattle.comm_calls.specs.Parameters.{note_of, text_of}
use Rattle.comm_calls.specs.Uses.{AreOpen, AreUses, changed_at, changed_by, changed_of_call, named_at, named_by, named_of, of_changed, open_after, uses_after}
use Rattle.comm_calls.specs.declared.function.Function.{Function}
use Rattle.comm_calls.specs.declared.uses.NumberUses.{NumberUses}

-- The groups of calls of the profile that name one number of an object of one sort; of each number the group that goes
-- on, by its place among them.
pub record ReadUses : Type 0 where
  pub groups : List Uses
  pub going : List (ℕ × ℕ)

-- those of a list that is read
abbrev pub read_of : NumberUses → ReadUses
read_of uses = record { groups = uses.groups.items; going = uses.going.entries }

-- What was read of a text: how many calls, the numbers beside MPI_COMM_WORLD and MPI_COMM_SELF, the size of
-- MPI_COMM_WORLD, the calls on communicators and groups, windows and files, and of each of the three sorts of objects
-- which calls of the profile name which numbers.
pub record ReadCalls : Type 0 where
  pub place : ℕ
  pub world : Option ℕ
  pub own : Option ℕ
  pub size : Option ℕ
  pub calls : List CommCall
  pub uses : ReadUses
  pub windows : ReadUses
  pub files : ReadUses

-- which calls name which numbers of this sort
abbrev pub uses_by : Object → ReadCalls → ReadUses
uses_by objects.Communicator read = read.uses
uses_by objects.Window read = read.windows
uses_by objects.File read = read.files

-- the group of a number that goes on
abbrev pub going_at : List (ℕ × ℕ) → ℕ → Option ℕ
going_at going number = lookup (nat_eq number) going

-- the first of two that is there
abbrev pub or_number : Option ℕ → Option ℕ → Option ℕ
or_number (Some n) next = Some n
or_number None next = next

-- the number beside a name in the parameter at a place
abbrev pub beside_at : List ℕ → List Param → ℕ → Option ℕ
beside_at name params place = option_and_then (λ pair. beside name pair.1) (pair_at params place)

-- the number beside a name in the first of the parameters that says one
abbrev pub beside_in : List ℕ → List Param → Option ℕ
beside_in name [] = None
beside_in name (param ∷ params) = or_number (beside name param.value) (beside_in name params)

-- the communicator of this text is MPI_COMM_WORLD
abbrev pub is_of_world : Option (List ℕ) → Bool
is_of_world None = false
is_of_world (Some text) = bytes_eq (note_of text) (codes "MPI_COMM_WORLD")

-- a returned MPI_Comm_size of MPI_COMM_WORLD (MPI 4.0, 7.4.1)
abbrev pub tells_size : TextCall → Bool
tells_size raw = not raw.threads && is_some raw.exit && bytes_eq raw.name (codes "MPI_Comm_size") && is_of_world (text_of (codes "comm") raw)

-- the size of MPI_COMM_WORLD that a call tells
abbrev pub size_in : TextCall → Option ℕ
size_in raw = if tells_size raw then natural_in (text_of (codes "size") raw) else None

-- The call at this place is read as this one.
pub record IsCommCall (function : Function) (place : ℕ) (raw : TextCall) (read : CommCall) : Type 0 where
  pub call : read.call ≡ place
  pub returned : read.returned ≡ is_some raw.exit
  pub action : IsAction function raw read.action

-- the calls with one more, where it is read
abbrev pub AddsCall : Option Function → ℕ → TextCall → List CommCall → List CommCall → Type 0
AddsCall None place raw old new = new ≡ old
AddsCall (Some function) place raw old new = (read : CommCall) × (new ≡ old ++ read ∷ []) × IsCommCall function place raw read

-- A call at this place names a number of one sort, or gives or ends one, if any.
pub record ReadsUses (place : ℕ) (named changed : Option ℕ) (old new : ReadUses) : Type 0 where
  pub groups : new.groups ≡ uses_after place named (going_at old.going) old.groups
  pub going : (number : ℕ) → going_at new.going number ≡ open_after named changed (length old.groups) (going_at old.going) number

-- What is read of the other two sorts stays.
abbrev pub KeepsOthers : Object → ReadCalls → ReadCalls → Type 0
KeepsOthers objects.Communicator old new = (new.windows ≡ old.windows) × (new.files ≡ old.files)
KeepsOthers objects.Window old new = (new.uses ≡ old.uses) × (new.files ≡ old.files)
KeepsOthers objects.File old new = (new.uses ≡ old.uses) × (new.windows ≡ old.windows)

-- A call names, gives or ends a number of this sort, if any, and nothing else is read of it.
pub record ReadsNumber (sort : Object) (named changed : Option ℕ) (old new : ReadCalls) : Type 0 where
  pub uses : ReadsUses old.place named changed (uses_by sort old) (uses_by sort new)
  pub others : KeepsOthers sort old new
  pub calls : new.calls ≡ old.calls
  pub place : new.place ≡ old.place
  pub world : new.world ≡ old.world
  pub own : new.own ≡ old.own
  pub size : new.size ≡ old.size

-- A call of this function is added, and ends the group of the number that it gives or ends.
pub record TakesCall (function : Function) (old : ReadCalls) (raw : TextCall) (new : ReadCalls) : Type 0 where
  pub read : CommCall
  pub is : IsCommCall function old.place raw read
  pub calls : new.calls ≡ old.calls ++ read ∷ []
  pub uses : (object : Object) → ReadsUses old.place None (of_changed object (changed_of_call read)) (uses_by object old) (uses_by object new)
  pub place : new.place ≡ old.place
  pub world : new.world ≡ old.world
  pub own : new.own ≡ old.own
  pub size : new.size ≡ old.size

-- A call of the profile names an object of its sort, or none.
pub record NamesCall (old : ReadCalls) (call : Call) (new : ReadCalls) : Type 0 where
  pub calls : new.calls ≡ old.calls
  pub uses : (object : Object) → ReadsUses old.place (named_of object call) None (uses_by object old) (uses_by object new)
  pub place : new.place ≡ old.place
  pub world : new.world ≡ old.world
  pub own : new.own ≡ old.own
  pub size : new.size ≡ old.size

-- What the next call says is added, but for the numbers beside names and the world's size.
pub record AddsSaid (old : ReadCalls) (raw : TextCall) (call : Call) (new : ReadCalls) : Type 0 where
  pub calls : AddsCall (function_of raw) old.place raw old.calls new.calls
  pub uses : (object : Object) → ReadsUses old.place (named_by object raw call) (changed_by object raw) (uses_by object old) (uses_by object new)
  pub place : new.place ≡ old.place
  pub world : new.world ≡ old.world
  pub own : new.own ≡ old.own
  pub size : new.size ≡ old.size

-- The next call of the text is read, which is this one of the profile or none.
pub record Reads (old : ReadCalls) (raw : TextCall) (call : Call) (new : ReadCalls) : Type 0 where
  pub place : new.place ≡ one_more old.place
  pub world : new.world ≡ or_number old.world (beside_in (codes "MPI_COMM_WORLD") raw.params)
  pub own : new.own ≡ or_number old.own (beside_in (codes "MPI_COMM_SELF") raw.params)
  pub size : new.size ≡ or_number old.size (size_in raw)
  pub calls : AddsCall (function_of raw) old.place raw old.calls new.calls
  pub uses : (object : Object) → ReadsUses old.place (named_by object raw call) (changed_by object raw) (uses_by object old) (uses_by object new)

-- ---- a whole text

-- the number beside a name in the first of the calls that says one
abbrev pub first_beside : List ℕ → List TextCall → Option ℕ
first_beside name [] = None
first_beside name (raw ∷ raws) = or_number (beside_in name raw.params) (first_beside name raws)

-- the size in the first of the calls that tells one
abbrev pub first_size : List TextCall → Option ℕ
first_size [] = None
first_size (raw ∷ raws) = or_number (size_in raw) (first_size raws)

-- the calls that are read of one and of those behind it
abbrev pub AreCallsBy : Option Function → ℕ → TextCall → (List CommCall → Type 0) → List CommCall → Type 0
AreCallsBy None place raw Behind calls = Behind calls
AreCallsBy (Some function) place raw Behind calls = (read : CommCall) × (others : List CommCall) × (calls ≡ read ∷ others) × IsCommCall function place raw read × Behind others

-- The calls that are read of these, the first of which has this place.
abbrev pub AreCalls : ℕ → List TextCall → List CommCall → Type 0
AreCalls place [] calls = calls ≡ []
AreCalls place (raw ∷ raws) calls = AreCallsBy (function_of raw) place raw (AreCalls (place + 1) raws) calls

-- Which calls of a text name which numbers of one sort.
pub record AreUsesOf (object : Object) (raws : List TextCall) (read : ReadUses) : Type 0 where
  pub uses : AreUses (named_at object raws) (changed_at object raws) read.groups
  pub going : AreOpen (changed_at object raws) read.groups (going_at read.going)

-- What the calls of a text say.
pub record IsReadOf (raws : List TextCall) (read : ReadCalls) : Type 0 where
  pub place : read.place ≡ length raws
  pub world : read.world ≡ first_beside (codes "MPI_COMM_WORLD") raws
  pub own : read.own ≡ first_beside (codes "MPI_COMM_SELF") raws
  pub size : read.size ≡ first_size raws
  pub calls : AreCalls 0 raws read.calls
  pub uses : (object : Object) → AreUsesOf object raws (uses_by object read)

-- no call names a number
abbrev pub no_uses : ReadUses
no_uses = record { groups = []; going = [] }

-- no call
abbrev pub nothing_read : ReadCalls
nothing_read = record { place = 0; world = None; own = None; size = None; calls = []; uses = no_uses; windows = no_uses; files = no_uses }

-- Calls that are read one after another are read as a whole: a text has fewer than 2^64 of them.
abbrev pub ReadsOneMore : Type 0
ReadsOneMore = (raws : List TextCall) (raw : TextCall) (call : TypedCall) (old new : ReadCalls) → length raws < 2 ^ 64 - 1 → IsReadOf raws old → typed raw ≡ Ok call → Reads old raw call.call new → IsReadOf (raws ++ raw ∷ []) new

-- the next call of a walk is read
abbrev pub reading : ReadCalls → TextCall → Call → ReadCalls → Type 0
reading old raw call new = Reads old raw call new

-- Calls that a walk handed on, from none on, are read as a whole.
abbrev pub ReadsWhole : Type 0
ReadsWhole = (raws : List TextCall) (new : ReadCalls) → length raws < 2 ^ 64 → Taken reading raws nothing_read new → IsReadOf raws new
