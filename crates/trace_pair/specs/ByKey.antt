-- Places by keys: rows of places, each with its key, and a map that tells where the row of a key stands.
use Rattle.std.specs.Prelude.{◌≡◌, ◌++◌, ℕ, true, cond, Option, Some, None, List, [], ◌∷◌, length, map, slice_get}
use Rattle.std.specs.declared.cmp.Ordering.{Ordering}
use Rattle.std.specs.Ordering.{is_eq}
use Rattle.std.specs.BTreeMap.{BTreeMap, get, is_at}
use Rattle.std.specs.Map.{lookup}
use Rattle.trace_pair.specs.Waiting.{Keyed}
use Rattle.trace_pair.specs.declared.by_key.Row.{Row}

-- the places of a row, none where there is no row
abbrev pub places_of : {K : Type 0} → Option (Row K) → List ℕ
places_of None = []
places_of (Some row) = row.places

-- the places by their keys
abbrev pub by_key : {K : Type 0} → List (Row K) → BTreeMap K ℕ → Keyed K
by_key rows index = map (λ e. (e.0, places_of (slice_get rows e.1))) index.entries

-- no places stand at the key
abbrev pub HasNoRow : {K : Type 0} → (K → K → Ordering) → Keyed K → K → Type 0
HasNoRow cmp places key = lookup (is_at (cmp key)) places ≡ None

-- a row of the key stands at the place
abbrev pub IsKeyAt : {K : Type 0} → (K → K → Ordering) → List (Row K) → ℕ → K → Type 0
IsKeyAt {K} cmp rows place key = (row : Row K) × (slice_get rows place ≡ Some row) × (is_eq (cmp row.key key) ≡ true)

-- The map tells of each row where it stands, and tells of no other place.
pub record AreRows {K : Type 0} (cmp : K → K → Ordering) (rows : List (Row K)) (index : BTreeMap K ℕ) : Type 0 where
  pub there : (k : K) (i : ℕ) → get cmp index k ≡ Some i → IsKeyAt cmp rows i k
  pub found : (i : ℕ) (row : Row K) → slice_get rows i ≡ Some row → get cmp index row.key ≡ Some i

-- the row stands behind the others, and the map tells so
pub record PutsRow {K : Type 0} (cmp : K → K → Ordering) (row : Row K) (rows : List (Row K)) (index : BTreeMap K ℕ) (more : List (Row K)) (new : BTreeMap K ℕ) : Type 0 where
  pub behind : more ≡ rows ++ row ∷ []
  pub told : (k : K) → get cmp new k ≡ cond (is_eq (cmp row.key k)) (Some (length rows)) (get cmp index k)
