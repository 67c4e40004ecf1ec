-- Which object a call of a rank names. Each rank numbers communicators, windows and files for itself, each sort apart,
-- and a number comes back once its object is freed (MPI 4.0, 7.4.3). So a number names an object for one rank, over a
-- stretch of its calls.
use Rattle.std.specs.Prelude.{◌≡◌, ℕ, ◌==◌, ◌&&◌, ◌||◌, Bool, true, false, List, [], ◌∷◌, ◌++◌, Option, Some, None, option_map, find, length, nat_le, nat_lt, slice_index_or, ◌<◌, ◌≤◌, if◌then◌else◌}
use Rattle.std.specs.List.{flat_map, list_any}
use Rattle.std.specs.List.Sorted.{IsPartitionPoint}
use Rattle.mpi_model.specs.declared.layout.comm.Stretch.{Stretch}
use Rattle.mpi_model.specs.declared.layout.names.Name.{Name}
use Rattle.mpi_model.specs.declared.object.Object.{Object}
use Rattle.mpi_model.specs.declared.object.Object.TheVariants.{Communicator as a_communicator, Window, File}
use Rattle.mpi_model.specs.Kinds.{object_number}
use Rattle.mpi_model.specs.Communicators.{Communicator, has_pair}

-- a call comes before the end, where there is one
abbrev pub is_before : ℕ → Option ℕ → Bool
is_before call None = true
is_before call (Some end) = nat_lt call end

-- a stretch holds its calls from the first on, up to its end and without it
abbrev pub holds : Stretch → ℕ → Bool
holds s call = nat_le s.first call && is_before call s.end

-- it holds some call
abbrev pub has_calls : Stretch → Bool
has_calls s = holds s s.first

-- of two stretches that hold calls: they have one number and share a call, so that one holds the first call of the
-- other
abbrev pub shares : Stretch → Stretch → Bool
shares s t = (s.number == t.number) && (holds s t.first || holds t s.first)

-- the stretch of a number over all calls
abbrev pub always : ℕ → Stretch
always number = record { number = number; first = 0; end = None }

-- each of these ranks names the communicator by its id
abbrev pub names_by_id : ℕ → List ℕ → List Name
names_by_id comm [] = []
names_by_id comm (rank ∷ ranks) = record { rank = rank; comm = comm; stretch = always comm } ∷ names_by_id comm ranks

-- what a member's entry says; a stretch without calls names nothing
abbrev pub name_by : ℕ → ℕ → Option Stretch → List Name
name_by comm rank None = []
name_by comm rank (Some s) = if has_calls s then record { rank = rank; comm = comm; stretch = s } ∷ [] else []

-- each member has the entry at its own place
abbrev pub names_by_numbers : ℕ → List ℕ → List (Option Stretch) → List Name
names_by_numbers comm [] numbers = []
names_by_numbers comm (rank ∷ ranks) [] = []
names_by_numbers comm (rank ∷ ranks) (number ∷ numbers) = name_by comm rank number ++ names_by_numbers comm ranks numbers

-- where no numbers are given, the id is the number
abbrev pub names_with : ℕ → List ℕ → List (Option Stretch) → List Name
names_with comm members [] = names_by_id comm members
names_with comm members (number ∷ numbers) = names_by_numbers comm members (number ∷ numbers)

-- the object is of this sort
abbrev pub is_of : Object → Communicator → Bool
is_of object g = object_number g.object == object_number object

-- by which numbers, and in which calls, the members of an object of this sort name it
abbrev pub names_in : Object → Communicator → List Name
names_in object g = if is_of object g then names_with g.comm g.members g.numbers else []

-- all names of the objects of a sort
abbrev pub names_of : Object → List Communicator → List Name
names_of object gs = flat_map (names_in object) gs

-- two names of one rank share a call, so that its number has two meanings
abbrev pub clashes : Name → Name → Bool
clashes x y = (x.rank == y.rank) && shares x.stretch y.stretch

-- two names of objects of this sort clash
abbrev pub has_clash_of : Object → List Communicator → Bool
has_clash_of object gs = has_pair clashes (names_of object gs)

-- two names of objects of one sort clash
abbrev pub has_clash : List Communicator → Bool
has_clash gs = has_clash_of a_communicator gs || has_clash_of Window gs || has_clash_of File gs

-- the name is that of a number in a call of a rank
abbrev pub is_name : ℕ → ℕ → ℕ → Name → Bool
is_name rank call number x = (x.rank == rank) && ((x.stretch.number == number) && holds x.stretch call)

-- the object of a sort that a number names in a call of a rank
abbrev pub numbered : Object → List Communicator → ℕ → ℕ → ℕ → Option ℕ
numbered object gs rank call number = option_map (λ x. x.comm) (find (is_name rank call number) (names_of object gs))

-- In an order of names by rank, then number, then first call: the name isn't behind this place.
abbrev pub precedes : ℕ → ℕ → ℕ → Name → Bool
precedes rank number call x = nat_lt x.rank rank || ((x.rank == rank) && (nat_lt x.stretch.number number || ((x.stretch.number == number) && nat_le x.stretch.first call)))

-- The names stand in that order.
abbrev pub AreOrdered : List Name → Type 0
AreOrdered names = (i j : ℕ) (d : Name) → i ≤ j → j < length names
    → (let y = slice_index_or names j d in precedes y.rank y.stretch.number y.stretch.first (slice_index_or names i d)) ≡ true

-- So many names, the first ones, are not behind this place, and no others.
abbrev pub PrecedeUpTo : ℕ → ℕ → ℕ → List Name → ℕ → Type 0
PrecedeUpTo rank number call names n = IsPartitionPoint (λ x. precedes rank number call x ≡ true) (λ x. precedes rank number call x ≡ false) names n

-- The names of the objects of a sort in their order, of which no two clash.
pub record AreNames (object : Object) (gs : List Communicator) (names : List Name) : Type 0 where
  pub ordered : AreOrdered names
  pub apart : has_pair clashes names ≡ false
  pub same : (test : Name → Bool) → list_any test names ≡ list_any test (names_of object gs)
