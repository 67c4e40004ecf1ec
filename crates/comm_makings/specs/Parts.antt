-- The communicators that one making makes.
use Rattle.std.specs.Prelude.{◌≡◌, ℕ, Bool, List, [], ◌∷◌, Option, Some, None, map}
use Rattle.comm_groups.specs.Grids.{AreParts, kept, size_within}
use Rattle.comm_groups.specs.Splits.{Group}
use Rattle.comm_makings.specs.Selection.{Selection}
use Rattle.comm_makings.specs.declared.parts.Outcome.{Outcome}
use Rattle.comm_makings.specs.declared.parts.Outcome.TheVariants as outcomes

-- these communicators are made
abbrev pub IsParts : List Selection → Outcome → Type 0
IsParts parts (outcomes.Parts made) = made.items ≡ parts
IsParts parts _ = ⊥

-- Nothing can be said of it.
abbrev pub IsUntold : Outcome → Type 0
IsUntold outcome = outcome ≡ outcomes.Untold

-- The calls make no sense together.
abbrev pub IsUnsound : Outcome → Type 0
IsUnsound outcome = outcome ≡ outcomes.Unsound

-- one communicator, where it has a member
abbrev pub one_of : List ℕ → Option (List ℕ) → List Selection
one_of [] dims = []
one_of (place ∷ places) dims = record { places = place ∷ places; dims = dims } ∷ []

-- One communicator is made, where it has a member.
abbrev pub IsOne : List ℕ → Option (List ℕ) → Outcome → Type 0
IsOne places dims outcome = IsParts (one_of places dims) outcome

-- the communicator of a group, with these dimensions where it is a grid
abbrev pub part_with : Option (List ℕ) → Group → Selection
part_with dims group = record { places = group.ranks; dims = dims }

-- a communicator of each group
abbrev pub IsOfGroups : List Group → Option (List ℕ) → Outcome → Type 0
IsOfGroups groups dims outcome = IsParts (map (part_with dims) groups) outcome

-- The parts of a grid: the members that agree in the coordinates of the dimensions that do not remain (MPI 4.0, 8.5).
abbrev pub IsGridOutcome : List ℕ → List Bool → Outcome → Type 0
IsGridOutcome dims remain outcome = (groups : List Group) × AreParts dims remain groups × IsOfGroups groups (Some (kept remain dims)) outcome

-- The same of so many members, where the dimensions have that many: else nothing can be said of it.
abbrev pub IsSizedGrid : Option ℕ → List ℕ → List Bool → Outcome → Type 0
IsSizedGrid None dims remain outcome = IsUntold outcome
IsSizedGrid (Some size) dims remain outcome = IsGridOutcome dims remain outcome

-- The same of a parent of so many members.
abbrev pub IsGridWithin : ℕ → List ℕ → List Bool → Outcome → Type 0
IsGridWithin members dims remain outcome = IsSizedGrid (size_within members dims) dims remain outcome
