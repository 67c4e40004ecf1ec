-- Things with a value each, of which one looks for the first three that have another value.
use Rattle.std.specs.Prelude.{◌≡◌, ◌≤◌, ◌==◌, ℕ, Bool, false, not, if◌then◌else◌, List, [], ◌∷◌, ◌++◌, filter, length, map, take}
use Rattle.trace_diagnosis.specs.declared.few.Placed.{Placed}

-- the thing has this value
abbrev pub has_value : ℕ → Placed → Bool
has_value v t = t.value == v

-- the thing has another value
abbrev pub has_other : ℕ → Placed → Bool
has_other v t = not (t.value == v)

-- No value has more than three.
abbrev pub HasFewOfEach : List Placed → Type 0
HasFewOfEach things = (v : ℕ) → length (filter (has_value v) things) ≤ 3

-- three have another value than each value but this
abbrev pub IsFullFor : ℕ → List Placed → Type 0
IsFullFor value things = (v : ℕ) → (value == v) ≡ false → 3 ≤ length (filter (has_other v) things)

-- the places of the first three that have another value
abbrev pub others : List Placed → ℕ → List ℕ
others things v = take 3 (map (λ t. t.place) (filter (has_other v) things))

-- a thing that one looks for or not
abbrev pub only_if : Bool → ℕ → List ℕ
only_if b place = if b then place ∷ [] else []

-- A place more, of this value: for each other value it may be one of the first three.
abbrev pub AddsThing : ℕ → ℕ → List Placed → List Placed → Type 0
AddsThing value place old new = (v : ℕ) → others new v ≡ take 3 (others old v ++ only_if (not (value == v)) place)
