-- What a second look at a text tells.
use Rattle.std.specs.Prelude.{◌≡◌, ◌&&◌, ℕ, ℤ, pos, negsuc, Bool, true, false, List, [], ◌∷◌, ◌++◌, Option, Some, None, Ok, codes, is_some, max, nat_lt, option_and_then, option_to_list, if◌then◌else◌}
use Rattle.std.specs.BTreeSet.{BTreeSet, contains}
use Rattle.std.specs.Ordering.{nat_cmp}
use Rattle.std.specs.Str.{bytes_eq}
use Rattle.mpi_model.specs.Failures.{one_more}
use Rattle.mpi_model.specs.declared.call.Call.{Call}
use Rattle.dumpi_text.specs.Call.{TextCall, first_value}
use Rattle.dumpi_text.specs.Grammar.{Complete, text_meaning}
use Rattle.dumpi_text.specs.Value.{value_of}
use Rattle.dumpi_text.specs.declared.number.Num.{Num}
use Rattle.dumpi_text.specs.declared.number.NumName.{NumName}
use Rattle.dumpi_text.specs.declared.number.NumName.TheVariants as names
use Rattle.dumpi_text.specs.declared.step.Position.{Position}
use Rattle.dumpi_text.specs.declared.value.Value.{Value}
use Rattle.dumpi_text.specs.declared.value.Value.TheVariants as values
use Rattle.dumpi_calls.specs.Rows.{typed}
use Rattle.dumpi_calls.specs.declared.typing.TypedCall.{TypedCall}
use Rattle.text_notes.specs.Arguments.{CallToldParts, arguments_from, call_told}
use Rattle.text_notes.specs.Noted.{UnreadParts, counted, is_local}
use Rattle.text_notes.specs.Sites.{SiteParts, site_of}

-- ---- one call

-- the name that a number's note gives it is MPI_COMM_WORLD
abbrev pub is_world_name : NumName → Bool
is_world_name names.CommWorld = true
is_world_name _ = false

-- a value is MPI_COMM_WORLD by its name
abbrev pub is_world : Option Value → Bool
is_world (Some (values.Number number)) = is_world_name number.name
is_world _ = false

-- an integer from 0 on
abbrev pub natural_of : ℤ → Option ℕ
natural_of (pos n) = Some n
natural_of (negsuc n) = None

-- a value that is one number from 0 on
abbrev pub natural_value : Option Value → Option ℕ
natural_value (Some (values.Number number)) = natural_of number.value
natural_value _ = None

-- what a parameter says
abbrev pub value_in : List ℕ → TextCall → Option Value
value_in name raw = option_and_then value_of (first_value name raw.params)

-- a returned MPI_Comm_size of MPI_COMM_WORLD (MPI 4.0, 7.4.1)
abbrev pub tells_size : TextCall → Bool
tells_size raw = is_some raw.exit && (bytes_eq raw.name (codes "MPI_Comm_size") && is_world (value_in (codes "comm") raw))

-- the size of the world that a call tells
abbrev pub size_of : TextCall → Option ℕ
size_of raw = if tells_size raw then natural_value (value_in (codes "size") raw) else None

-- the greater of two sizes, where both are told
abbrev pub greater : Option ℕ → Option ℕ → Option ℕ
greater None other = other
greater (Some n) None = Some n
greater (Some n) (Some m) = Some (max n m)

-- ---- the calls of a text, each beside the call as which it was read, with numbers from one on

-- the call site of a call, where its number is wanted
abbrev pub wanted_site : BTreeSet ℕ → ℕ → TextCall → Option SiteParts
wanted_site wanted number raw = if contains nat_cmp wanted number then Some (site_of number raw) else None

-- the call sites of those whose numbers are wanted
abbrev pub sites_from : BTreeSet ℕ → ℕ → List (TextCall × Call) → List SiteParts
sites_from wanted number [] = []
sites_from wanted number (call ∷ calls) = option_to_list (wanted_site wanted number call.0) ++ sites_from wanted (one_more number) calls

-- one call more of its function, where it is local and its number below a limit
abbrev pub with_local : ℕ → ℕ → TextCall × Call → List UnreadParts → List UnreadParts
with_local limit number call functions = if nat_lt number limit && is_local call.1 then counted number 1 call.0.name functions else functions

-- the functions of local calls whose numbers are below a limit, in the order of their first such calls
abbrev pub local_from : ℕ → ℕ → List UnreadParts → List (TextCall × Call) → List UnreadParts
local_from limit number functions [] = functions
local_from limit number functions (call ∷ calls) = local_from limit (one_more number) (with_local limit number call functions) calls

-- the greatest size of the world that calls tell
abbrev pub greatest_size : List (TextCall × Call) → Option ℕ
greatest_size [] = None
greatest_size (call ∷ calls) = greater (size_of call.0) (greatest_size calls)

-- ---- a whole text

-- What a look tells of a text: the call sites of the calls that were wanted, the functions of local calls, the size of the world, and
-- what collective calls tell of their arguments.
pub record LookParts : Type 0 where
  pub sites : List SiteParts
  pub local : List UnreadParts
  pub size : Option ℕ
  pub arguments : List CallToldParts

-- The look tells what calls do.
pub record TellsCalls (wanted : BTreeSet ℕ) (limit : ℕ) (calls : List (TextCall × Call)) (look : LookParts) : Type 0 where
  pub sites_are : look.sites ≡ sites_from wanted 0 calls
  pub local_are : look.local ≡ local_from limit 0 [] calls
  pub size_is : look.size ≡ greatest_size calls
  pub arguments_are : look.arguments ≡ arguments_from 0 calls

-- These are the calls of a text, each beside the call as which it is read.
abbrev pub AreRead : List TextCall → List (TextCall × Call) → Type 0
AreRead [] calls = calls ≡ []
AreRead (raw ∷ raws) calls = (call : TypedCall) × (rest : List (TextCall × Call)) × (typed raw ≡ Ok call) × AreRead raws rest × (calls ≡ (raw, call.call) ∷ rest)

-- The look tells what the calls of this text do.
pub record TellsText (wanted : BTreeSet ℕ) (limit : ℕ) (text : List ℕ) (look : LookParts) : Type 0 where
  pub raws : List TextCall
  pub at : Position
  pub whole : text_meaning text ≡ record { calls = raws; end = Complete at }
  pub calls : List (TextCall × Call)
  pub read_as : AreRead raws calls
  pub told : TellsCalls wanted limit calls look

-- the same, where the text's bytes are told
abbrev pub IsLookOf : BTreeSet ℕ → ℕ → Option (List ℕ) → LookParts → Type 0
IsLookOf wanted limit None look = Unit {0}
IsLookOf wanted limit (Some text) look = TellsText wanted limit text look

-- ---- while it is looked at

-- What is kept of a look: what is asked for, how many calls there were, and what they tell.
pub record LookState : Type 0 where
  pub wanted : BTreeSet ℕ
  pub limit : ℕ
  pub calls : ℕ
  pub told : LookParts

-- nothing was looked at
abbrev pub nothing_looked : BTreeSet ℕ → ℕ → LookState
nothing_looked wanted limit = record { wanted = wanted; limit = limit; calls = 0; told = record { sites = []; local = []; size = None; arguments = [] } }

-- what is told with one call more
abbrev pub told_after : LookState → TextCall × Call → LookParts
told_after old call = record {
  sites = old.told.sites ++ option_to_list (wanted_site old.wanted old.calls call.0);
  local = with_local old.limit old.calls call old.told.local;
  size = greater old.told.size (size_of call.0);
  arguments = old.told.arguments ++ option_to_list (call_told old.calls call.0 call.1);
}

-- one call more
abbrev pub looked : LookState → TextCall → Call → LookState
looked old raw call = record { wanted = old.wanted; limit = old.limit; calls = one_more old.calls; told = told_after old (raw, call) }

-- the state that a call may leave
abbrev pub looking : LookState → TextCall → Call → LookState → Type 0
looking old raw call new = new ≡ looked old raw call
