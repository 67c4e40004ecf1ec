-- Files by their names, and how a store of them changes.
use Rattle.std.specs.Prelude.{◌≡◌, ◌≢◌, ◌≤◌, ◌⊎◌, ◌++◌, ℕ, List, Option, Some, None, Result, MatchResult, codes}
use Rattle.mpi_model.specs.Failures.{one_more}
use Rattle.run_files.specs.declared.store.NewFile.{NewFile}
use Rattle.run_files.specs.declared.store.PutFault.{PutFault}
use Rattle.run_files.specs.declared.store.PutFault.TheVariants as puts
use Rattle.run_files.specs.declared.store.StoreFault.{StoreFault}
use Rattle.run_files.specs.declared.store.StoreFault.TheVariants as stores
use Rattle.run_files.specs.declared.store.Which.{Which}
use Rattle.run_files.specs.declared.store.Which.TheVariants.{First, Second}

-- the bytes of the file of each name, where there is one
abbrev pub Files : Type 0
Files = List ℕ → Option (List ℕ)

-- a file: its name and its bytes
pub record File : Type 0 where
  pub name : List ℕ
  pub bytes : List ℕ

-- a file that is to be kept
abbrev pub file_of : NewFile → File
file_of new = record { name = new.name.now; bytes = new.bytes.now }

-- A store goes from these files to those, where it tells them.
abbrev pub Goes : (Files → Files → Type 0) → Option Files → Option Files → Type 0
Goes Step None new = Unit {0}
Goes Step (Some old) new = (now : Files) × (new ≡ Some now) × Step old now

-- It is so of a store's files, where it tells them.
abbrev pub Told : (Files → Type 0) → Option Files → Type 0
Told P None = Unit {0}
Told P (Some files) = P files

-- There is a file of this name.
abbrev pub IsThere : List ℕ → Files → Type 0
IsThere name files = files name ≢ None

-- no file has changed
abbrev pub Same : Files → Files → Type 0
Same old now = (name : List ℕ) → now name ≡ old name

-- There is a file of this name with these bytes, where there was none.
pub record Adds (path bytes : List ℕ) (old now : Files) : Type 0 where
  pub absent : old path ≡ None
  pub there : now path ≡ Some bytes
  pub others : (name : List ℕ) → name ≢ path → now name ≡ old name

-- There is no file of this name.
pub record Removes (path : List ℕ) (old now : Files) : Type 0 where
  pub absent : now path ≡ None
  pub others : (name : List ℕ) → name ≢ path → now name ≡ old name

-- A file has another name, in place of one that had it.
pub record Moves (from to : List ℕ) (old now : Files) : Type 0 where
  pub there : now to ≡ old from
  pub absent : from ≢ to → now from ≡ None
  pub others : (name : List ℕ) → name ≢ from → name ≢ to → now name ≡ old name

-- There are both files, and no other has changed.
pub record HasBoth (one other : File) (old now : Files) : Type 0 where
  pub one_there : now one.name ≡ Some one.bytes
  pub other_there : now other.name ≡ Some other.bytes
  pub others : (name : List ℕ) → name ≢ one.name → name ≢ other.name → now name ≡ old name

-- There are both files, and neither was there.
pub record AddsBoth (one other : File) (old now : Files) : Type 0 where
  pub none_was : (old one.name ≡ None) × (old other.name ≡ None)
  pub both : HasBoth one other old now

-- There is no file of these names, and no other has changed.
pub record RemovesBoth (one other : List ℕ) (old now : Files) : Type 0 where
  pub absent : (now one ≡ None) × (now other ≡ None)
  pub others : (name : List ℕ) → name ≢ one → name ≢ other → now name ≡ old name

-- There is no file of the first name, or the same as before, and no other has changed.
pub record MayLack (one : List ℕ) (old now : Files) : Type 0 where
  pub first : (now one ≡ None) ⊎ (now one ≡ old one)
  pub others : (name : List ℕ) → name ≢ one → now name ≡ old name

-- no two of these names are the same
pub record AreDistinct (a b c d : List ℕ) : Type 0 where
  pub first : (a ≢ b) × (a ≢ c) × (a ≢ d)
  pub second : (b ≢ c) × (b ≢ d)
  pub third : c ≢ d

-- ---- why files aren't kept

-- how often a store has failed after this refusal to add a file
abbrev pub counted : ℕ → StoreFault → ℕ
counted before stores.There = before
counted before stores.Failed = one_more before

-- The count of failures rises by one where a file couldn't be added, and stays where it was or where one is there.
abbrev pub CountsAdding : {T : Type 0} → ℕ → ℕ → Result T StoreFault → Type 0
CountsAdding before now r = (before ≤ now) × MatchResult r (λ _. now ≡ before) (λ fault. now ≡ counted before fault)

-- why one of two files wasn't added
abbrev pub fault_of_adding : StoreFault → Which → PutFault
fault_of_adding stores.There which = puts.There which
fault_of_adding stores.Failed which = puts.Failed which

-- why two files don't take the place of others, where those of spare names weren't added
abbrev pub fault_of_spares : PutFault → PutFault
fault_of_spares (puts.There which) = puts.SpareThere which
fault_of_spares fault = fault

-- The fault says that nothing is left of what was to be kept.
abbrev pub LeavesNothing : PutFault → Type 0
LeavesNothing fault = (half : Which) → fault ≢ puts.Half half

-- What is left of two new files: nothing, and at `Half` the first, which couldn't be taken away again.
abbrev pub LeftOfAdding : File → PutFault → Files → Files → Type 0
LeftOfAdding one (puts.Half First) = λ old now. ⊥
LeftOfAdding one (puts.Half Second) = Adds one.name one.bytes
LeftOfAdding one fault = Same

-- Of two spare files, which weren't there, the second is left, and maybe the first; no other file has changed.
pub record LeavesSpares (spare other_spare : File) (old now : Files) : Type 0 where
  pub none_was : (old spare.name ≡ None) × (old other_spare.name ≡ None)
  pub first : (now spare.name ≡ None) ⊎ (now spare.name ≡ Some spare.bytes)
  pub second : now other_spare.name ≡ Some other_spare.bytes
  pub others : (name : List ℕ) → name ≢ spare.name → name ≢ other_spare.name → now name ≡ old name

-- The first file has its name, and the second its spare name; no other file has changed, so that of the second name is
-- the old one.
pub record ReplacesFirst (one spare other_spare : File) (old now : Files) : Type 0 where
  pub none_was : (old spare.name ≡ None) × (old other_spare.name ≡ None)
  pub first : now one.name ≡ Some one.bytes
  pub absent : now spare.name ≡ None
  pub second : now other_spare.name ≡ Some other_spare.bytes
  pub others : (name : List ℕ) → name ≢ one.name → name ≢ spare.name → name ≢ other_spare.name → now name ≡ old name

-- What is left of two files that don't take the place of others: nothing, and at `Half` spare files, and maybe the
-- first file in its place.
abbrev pub LeftOfReplacing : (one spare other_spare : File) → PutFault → Files → Files → Type 0
LeftOfReplacing one spare other_spare (puts.Half First) = LeavesSpares spare other_spare
LeftOfReplacing one spare other_spare (puts.Half Second) = λ old now. Adds spare.name spare.bytes old now ⊎ ReplacesFirst one spare other_spare old now
LeftOfReplacing one spare other_spare fault = Same

-- a file under another name
abbrev pub named : List ℕ → File → File
named name file = record { name = name; bytes = file.bytes }

-- the name of the last file that a store has refused, after this refusal to add one
abbrev pub last_refused : List ℕ → List ℕ → StoreFault → List ℕ
last_refused path last stores.There = last
last_refused path last stores.Failed = path

-- Where a store tells the name of the last file that it has refused, that is this one where it failed to add it.
abbrev pub TellsAdding : {T : Type 0} → List ℕ → Option (List ℕ) → Option (List ℕ) → Result T StoreFault → Type 0
TellsAdding path None now r = Unit {0}
TellsAdding path (Some last) now r = MatchResult r (λ _. now ≡ Some last) (λ fault. now ≡ Some (last_refused path last fault))

-- The same, where it failed to remove or rename this one.
abbrev pub TellsChange : {T E : Type 0} → List ℕ → Option (List ℕ) → Option (List ℕ) → Result T E → Type 0
TellsChange path None now r = Unit {0}
TellsChange path (Some last) now r = MatchResult r (λ _. now ≡ Some last) (λ _. now ≡ Some path)

-- The last file that a store has refused is this one, where it tells which.
abbrev pub IsLastRefused : List ℕ → Option (List ℕ) → Option (List ℕ) → Type 0
IsLastRefused path None now = Unit {0}
IsLastRefused path (Some last) now = now ≡ Some path

-- It has refused none since.
abbrev pub RefusesNone : Option (List ℕ) → Option (List ℕ) → Type 0
RefusesNone None now = Unit {0}
RefusesNone (Some last) now = now ≡ Some last

-- A fault of two new files names the one that couldn't be written.
abbrev pub NamesUnadded : (one other : List ℕ) → PutFault → Option (List ℕ) → Option (List ℕ) → Type 0
NamesUnadded one other (puts.Failed First) last now = IsLastRefused one last now
NamesUnadded one other (puts.Failed Second) last now = IsLastRefused other last now
NamesUnadded one other fault last now = Unit {0}

-- A fault of two files that don't take the place of others names the one that couldn't be written under its spare name,
-- or, of the first, renamed.
abbrev pub NamesUnreplaced : (one spare other_spare : List ℕ) → PutFault → Option (List ℕ) → Option (List ℕ) → Type 0
NamesUnreplaced one spare other_spare (puts.Failed First) last now = IsLastRefused spare last now ⊎ IsLastRefused one last now
NamesUnreplaced one spare other_spare (puts.Failed Second) last now = IsLastRefused other_spare last now
NamesUnreplaced one spare other_spare fault last now = Unit {0}

-- Why two files of these names aren't added to a store: they have one name, a file is there, or the store failed
-- meanwhile.
abbrev pub RefusesAdding : List ℕ → List ℕ → Option Files → Type 0 → PutFault → Type 0
RefusesAdding one other files failed puts.Memory = ⊥
RefusesAdding one other files failed puts.OneName = one ≡ other
RefusesAdding one other files failed (puts.There First) = Told (IsThere one) files
RefusesAdding one other files failed (puts.There Second) = Told (λ old. (old one ≡ None) × IsThere other old) files
RefusesAdding one other files failed (puts.SpareThere which) = ⊥
RefusesAdding one other files failed (puts.Failed which) = failed
RefusesAdding one other files failed (puts.Half which) = failed

-- the name of a file until it has its own
abbrev pub spare_name : List ℕ → List ℕ
spare_name name = name ++ codes ".new"

-- Why two files don't take the place of those of their names: two names are one, spare ones among them, or there is a
-- file of a spare name, or the store failed meanwhile.
abbrev pub RefusesReplacing : (one other spare other_spare : List ℕ) → Option Files → Type 0 → PutFault → Type 0
RefusesReplacing one other spare other_spare files failed puts.Memory = Unit {0}
RefusesReplacing one other spare other_spare files failed puts.OneName = AreDistinct one other spare other_spare → ⊥
RefusesReplacing one other spare other_spare files failed (puts.There which) = ⊥
RefusesReplacing one other spare other_spare files failed (puts.SpareThere which) = RefusesAdding spare other_spare files failed (puts.There which)
RefusesReplacing one other spare other_spare files failed (puts.Failed which) = failed
RefusesReplacing one other spare other_spare files failed (puts.Half which) = failed
