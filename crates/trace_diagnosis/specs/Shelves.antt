-- Things by a key, of which one looks for the first three that differ in one value.
use Rattle.std.specs.Prelude.{◌≡◌, ◌==◌, ◌&&◌, ◌||◌, ℕ, Bool, true, not, is_some, Option, Some, None, List, [], ◌++◌, take}
use Rattle.std.specs.BTreeMap.{get}
use Rattle.trace_wait.specs.Patterns.{Pattern, pattern_cmp, same_pattern}
use Rattle.trace_diagnosis.specs.Fewest.{only_if, others}
use Rattle.trace_diagnosis.specs.declared.few.Placed.{Placed}
use Rattle.trace_diagnosis.specs.declared.shelf.Shelf.{Shelf}

-- there is a place for the key
abbrev pub has_key : Shelf → Pattern → Bool
has_key shelf k = is_some (get pattern_cmp shelf.things k)

-- the things, none where there is no place for them
abbrev pub things_of : Option (List Placed) → List Placed
things_of None = []
things_of (Some things) = things

-- the places of the first three under a key that have another value
abbrev pub others_at : Shelf → Pattern → ℕ → List ℕ
others_at shelf k v = others (things_of (get pattern_cmp shelf.things k)) v

-- Nothing stands under any key.
abbrev pub IsBare : Shelf → Type 0
IsBare shelf = (k : Pattern) (v : ℕ) → others_at shelf k v ≡ []

-- There is a place for the key, and things stand as before.
pub record MakesKey (key : Pattern) (old new : Shelf) : Type 0 where
  pub there : has_key new key ≡ true
  pub kept : (k : Pattern) → has_key old k ≡ true → has_key new k ≡ true
  pub same : (k : Pattern) (v : ℕ) → others_at new k v ≡ others_at old k v

-- A place more stands under the key, with its value, if there is a place for the key.
pub record PutsThing (key : Pattern) (value place : ℕ) (old new : Shelf) : Type 0 where
  pub kept : (k : Pattern) → has_key new k ≡ has_key old k
  pub more : (k : Pattern) (v : ℕ) → (has_key old key || has_key old k) ≡ true → others_at new k v ≡ take 3 (others_at old k v ++ only_if (same_pattern key k && not (value == v)) place)
