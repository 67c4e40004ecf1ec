-- Folders among the words, each of which stands for the texts in it.
use Rattle.std.specs.Prelude.{◌≡◌, ◌≢◌, ◌⊎◌, ◌==◌, ◌++◌, ◌∷◌, ℕ, Bool, true, List, [], Option, None, Some, String, Contains, codes, map, string_bytes, if◌then◌else◌}
use Rattle.std.specs.List.{ends_with}
use Rattle.std.specs.declared.alloc.Global.{Global}
use Rattle.run_inputs.specs.WalkFaults.{IsNamed}
use Rattle.run_inputs.specs.declared.faults.fault.RunFault.TheVariants.{File}
use Rattle.run_inputs.specs.declared.faults.init_fault.InitFault.{InitFault}
use Rattle.run_inputs.specs.declared.faults.init_fault.InitFault.TheVariants.{Memory, Text, NoTexts}

-- some bytes end so
abbrev pub ends_in : List ℕ → List ℕ → Bool
ends_in bytes end = ends_with (λ a b. a == b) bytes end

-- a file in a folder is a text, by its name
abbrev pub is_text_name : List ℕ → Bool
is_text_name entry = ends_in entry (codes ".txt")

-- the name of a file in a folder
abbrev pub name_in : List ℕ → List ℕ → List ℕ
name_in folder entry = if ends_in folder (codes "/") then folder ++ entry else folder ++ codes "/" ++ entry

-- The name is that of a text in the folder.
pub record IsTextIn (folder name : List ℕ) : Type 0 where
  pub entry : List ℕ
  pub within : name ≡ name_in folder entry
  pub ends : is_text_name entry ≡ true

-- All these are names of texts in the folder.
abbrev pub AreTextsIn : List ℕ → List (String Global) → Type 0
AreTextsIn folder [] = Unit {0}
AreTextsIn folder (name ∷ names) = IsTextIn folder (string_bytes name) × AreTextsIn folder names

-- These names stand for a word: the word alone; or, where nothing tells the bytes of a file of that name, texts in the
-- folder of that name.
abbrev pub StandFor : Option (List ℕ) → List ℕ → List (String Global) → Type 0
StandFor file word names = (map string_bytes names ≡ word ∷ []) ⊎ ((file ≡ None) × AreTextsIn word names)

-- These names stand for the words, in their order.
abbrev pub StandForAll : (List ℕ → Option (List ℕ)) → List (List ℕ) → List (List ℕ) → Type 0
StandForAll file [] names = names ≡ []
StandForAll file (word ∷ words) names = (some : List (String Global)) × (more : List (List ℕ))
    × StandFor (file word) word some × StandForAll file words more × (names ≡ map string_bytes some ++ more)

-- Why a word stands for no names: it is a folder without a text, or one that can't be read; nothing tells the bytes of
-- a file of that name.
abbrev pub IsNoFolder : List ℕ → Option (List ℕ) → InitFault → Type 0
IsNoFolder word file Memory = Unit {0}
IsNoFolder word file (NoTexts path) = IsNamed path word × (file ≡ None)
IsNoFolder word file (Text (File path)) = IsNamed path word × (file ≡ None)
IsNoFolder word file _ = ⊥

-- One of the words stands for no names.
abbrev pub NamesNoFolder : (List ℕ → Option (List ℕ)) → List (List ℕ) → InitFault → Type 0
NamesNoFolder file words fault = (fault ≡ Memory) ⊎ ((word : List ℕ) × Contains words word × IsNoFolder word (file word) fault)
