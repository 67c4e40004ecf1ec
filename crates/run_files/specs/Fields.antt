-- What a JSON text is, and what the fields of a value hold.
use Rattle.std.specs.Prelude.{◌≡◌, ℕ, List, [], ◌∷◌, Option, Some, None, nat_lt, if◌then◌else◌, option_and_then, option_map}
use Rattle.std.specs.Str.{IsUtf8}
use Rattle.serde_json.specs.Data.{Data, Items, no_items, item}
use Rattle.serde_json.specs.Find.{as_number, as_u64}
use Rattle.serde_json.specs.Read.{read}
use Rattle.run_files.specs.declared.fault.InputFault.{InputFault}
use Rattle.run_files.specs.declared.fault.InputFault.TheVariants.{Memory, Json, Shape, Piece, Packed, Layout}

-- The text is UTF-8 and JSON, of this value.
pub record IsJson (text : List ℕ) (value : Data) : Type 0 where
  pub utf8 : IsUtf8 text
  pub reads : read text ≡ Some value

-- Why a text has no value.
abbrev pub HasNoValue : List ℕ → InputFault → Type 0
HasNoValue text Memory = Unit {0}
HasNoValue text (Json line column) = (value : Data) → IsJson text value → ⊥
HasNoValue text (Shape field) = ⊥
HasNoValue text Piece = ⊥
HasNoValue text Packed = ⊥
HasNoValue text (Layout fault) = ⊥

-- a whole number from 0 to 2^64 - 1
abbrev pub u64_in : Data → Option ℕ
u64_in value = option_and_then as_u64 (as_number value)

-- a number below 2^32
abbrev pub below_u32 : Option ℕ → Option ℕ
below_u32 None = None
below_u32 (Some n) = if nat_lt n 4294967296 then Some n else None

-- a whole number from 0 to 2^32 - 1
abbrev pub u32_in : Data → Option ℕ
u32_in value = below_u32 (u64_in value)

-- 0 or 1
abbrev pub below_two : Option ℕ → Option ℕ
below_two None = None
below_two (Some n) = if nat_lt n 2 then Some n else None

-- a number that is 0 or 1
abbrev pub bit_in : Data → Option ℕ
bit_in value = below_two (u64_in value)

-- what a field holds, or a value for a field that is absent
abbrev pub or_absent : {A : Type 0} → A → (Data → Option A) → Option Data → Option A
or_absent absent read None = Some absent
or_absent absent read (Some value) = read value

-- a list with one item more in front, where both can be read
abbrev pub with_first : {A : Type 0} → Option A → Option (List A) → Option (List A)
with_first None rest = None
with_first (Some x) rest = option_map (λ xs. x ∷ xs) rest

-- a list of such numbers, in its order
abbrev pub u32s_in : Items → Option (List ℕ)
u32s_in no_items = Some []
u32s_in (item value values) = with_first (u32_in value) (u32s_in values)
