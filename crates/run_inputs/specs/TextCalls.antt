-- What the texts of all ranks say, and why one is refused.
use Rattle.std.specs.Prelude.{◌≡◌, ◌⊎◌, ◌&&◌, ◌==◌, ◌+◌, ℕ, Bool, true, false, List, [], ◌∷◌, Option, Some, None, String, nat_lt, slice_get, take}
use Rattle.std.specs.declared.alloc.Global.{Global}
use Rattle.dumpi_calls.specs.declared.collect.Memory.{Memory as NoMemory}
use Rattle.dumpi_calls.specs.declared.fault.WalkFault.{WalkFault}
use Rattle.dumpi_calls.specs.declared.walking.Walked.{Walked}
use Rattle.comm_makings.specs.declared.calls.RankCalls.{RankCalls}
use Rattle.text_layouts.specs.Texts.{IsReadFrom, StopsIn}
use Rattle.run_inputs.specs.WalkFaults.{IsNamed, IsWalkFault}
use Rattle.run_inputs.specs.declared.faults.fault.RunFault.{RunFault}
use Rattle.run_inputs.specs.declared.faults.fault.RunFault.TheVariants as runs
use Rattle.run_inputs.specs.declared.faults.init_fault.InitFault.{InitFault}
use Rattle.run_inputs.specs.declared.faults.init_fault.InitFault.TheVariants.{Memory, Text, NoCall}

-- a text that has lines and no call is none
abbrev pub is_no_text : Walked → Bool
is_no_text walked = walked.calls == 0 && nat_lt 0 walked.skipped

-- Where its bytes are told, a text is one, says this of communicators, and has so many calls.
abbrev pub Says : Option (List ℕ) → RankCalls → ℕ → Type 0
Says None rank count = Unit {0}
Says (Some text) rank count = (walked : Walked) × IsReadFrom (Some text) rank walked × (is_no_text walked ≡ false) × (walked.calls ≡ count)

-- a rank without a text says nothing
pub record SaysNothing (rank : RankCalls) : Type 0 where
  pub world : rank.world ≡ None
  pub own : rank.own ≡ None
  pub size : rank.size ≡ None
  pub calls : rank.calls.items ≡ []
  pub uses : rank.uses.items ≡ []
  pub windows : rank.windows.items ≡ []
  pub files : rank.files.items ≡ []

-- The text of a rank, where it has one, says this of communicators, and has so many calls.
abbrev pub SaysAt : (List ℕ → Option (List ℕ)) → Option (List ℕ) → RankCalls → ℕ → Type 0
SaysAt file None rank count = SaysNothing rank × (count ≡ 0)
SaysAt file (Some name) rank count = Says (file name) rank count

-- The texts of the ranks, of those that have one, say this, and have so many calls together.
abbrev pub AllSay : (List ℕ → Option (List ℕ)) → List (Option (List ℕ)) → List RankCalls → ℕ → Type 0
AllSay file [] ranks calls = (ranks ≡ []) × (calls ≡ 0)
AllSay file (seat ∷ seats) ranks calls = (rank : RankCalls) × (rest : List RankCalls) × (count more : ℕ) × SaysAt file seat rank count
    × AllSay file seats rest more × (ranks ≡ rank ∷ rest) × (calls ≡ count + more)

-- ---- why a text is refused

-- where its bytes are told, the text is refused so
abbrev pub StopsSo : Option (List ℕ) → WalkFault NoMemory → Type 0
StopsSo None fault = Unit {0}
StopsSo (Some text) fault = StopsIn (Some text) fault

-- The file can't be opened, so its text isn't known, or its text is refused.
abbrev pub RefusesRead : List ℕ → Option (List ℕ) → RunFault → Type 0
RefusesRead name text fault = ((path : String Global) × (fault ≡ runs.File path) × IsNamed path name × (text ≡ None))
    ⊎ ((walk : WalkFault NoMemory) × IsWalkFault name walk fault × StopsSo text walk)

-- where its bytes are told, a text has lines and no call
abbrev pub HasNoCall : Option (List ℕ) → Type 0
HasNoCall None = Unit {0}
HasNoCall (Some text) = (rank : RankCalls) × (walked : Walked) × IsReadFrom (Some text) rank walked × (is_no_text walked ≡ true)

-- Why the text of a file of this name is refused.
abbrev pub RefusesText : List ℕ → Option (List ℕ) → InitFault → Type 0
RefusesText name text Memory = Unit {0}
RefusesText name text (Text fault) = RefusesRead name text fault
RefusesText name text (NoCall path) = IsNamed path name × HasNoCall text
RefusesText name text _ = ⊥

-- Why the text of a rank is refused, where it has one.
abbrev pub RefusesAt : (List ℕ → Option (List ℕ)) → Option (List ℕ) → InitFault → Type 0
RefusesAt file None fault = ⊥
RefusesAt file (Some name) fault = RefusesText name (file name) fault

-- The first of these texts that isn't read is refused so: those before it say something.
pub record IsFirstRefused (file : List ℕ → Option (List ℕ)) (seats : List (Option (List ℕ))) (fault : InitFault) : Type 0 where
  pub place : ℕ
  pub seat : Option (List ℕ)
  pub there : slice_get seats place ≡ Some seat
  pub ranks : List RankCalls
  pub calls : ℕ
  pub before : AllSay file (take place seats) ranks calls
  pub refused : RefusesAt file seat fault

-- the first of these texts that isn't read is refused, or memory was wanting
abbrev pub RefusesOne : (List ℕ → Option (List ℕ)) → List (Option (List ℕ)) → InitFault → Type 0
RefusesOne file seats fault = (fault ≡ Memory) ⊎ IsFirstRefused file seats fault
