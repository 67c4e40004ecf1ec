-- Communicators and their groups (MPI 4.0, chapter 7), and the windows and files that are made on them (chapters 12 and
-- 14).
use Rattle.std.specs.Prelude.{◌≡◌, ℕ, ◌-◌, ◌==◌, ◌||◌, Bool, false, nat_lt, List, [], ◌∷◌, Option, Some, None, option_map, find, map, filter, length, take, drop, Vec, if◌then◌else◌}
use Rattle.std.specs.List.{list_any}
use Rattle.std.specs.List.Sorted.{IsPermutation, IsNonDecreasingBy}
use Rattle.std.specs.declared.alloc.Global.{Global}
use Rattle.mpi_model.specs.declared.layout.comm.Stretch.{Stretch}
use Rattle.mpi_model.specs.declared.object.Object.{Object}
use Rattle.mpi_model.specs.declared.object.Object.TheVariants.{Communicator as a_communicator}

-- A communicator, a window or a file: its id and its sort, the ranks of its group in their order (MPI 4.0, 7.2.1), and
-- for each of these by which number its own calls name it. Where no numbers are given all of them name it by the id. An
-- intercommunicator has two groups, one behind the other among the members, and `remote_size` is how many of them, the
-- last ones, are the second (7.6); elsewhere it is 0.
pub record Communicator : Type 0 where
  pub comm : ℕ
  pub object : Object
  pub members : List ℕ
  pub remote_size : ℕ
  pub numbers : List (Option Stretch)

-- the communicators as they are passed, without numbers
abbrev pub communicators : List (ℕ × Vec ℕ Global) → List Communicator
communicators [] = []
communicators (c ∷ cs) = record { comm = c.0; object = a_communicator; members = c.1.items; remote_size = 0; numbers = [] } ∷ communicators cs

-- their ids
abbrev pub ids : List Communicator → List ℕ
ids gs = map (λ g. g.comm) gs

-- the object of this id
abbrev pub one_of : List Communicator → ℕ → Option Communicator
one_of gs comm = find (λ g. g.comm == comm) gs

-- it has two groups
abbrev pub is_inter : Communicator → Bool
is_inter g = nat_lt 0 g.remote_size

-- how many members stand before those of the second group
abbrev pub first_size : Communicator → ℕ
first_size g = length g.members - g.remote_size

-- the first group, and the second one, which only an intercommunicator has
abbrev pub first_group : Communicator → List ℕ
first_group g = take (first_size g) g.members

abbrev pub second_group : Communicator → List ℕ
second_group g = drop (first_size g) g.members

-- the rank is one of these
abbrev pub is_among : ℕ → List ℕ → Bool
is_among rank members = list_any (λ r. r == rank) members

-- the group in which a rank is (MPI 4.0, 7.6: of an intercommunicator its local group)
abbrev pub local_group : ℕ → Communicator → List ℕ
local_group rank g = if is_inter g then (if is_among rank (first_group g) then first_group g else second_group g) else g.members

-- The group whose ranks a rank names, as peers and as roots: of an intercommunicator the one in which it isn't, its
-- remote group (MPI 4.0, 7.6).
abbrev pub peers : ℕ → Communicator → List ℕ
peers rank g = if is_inter g then (if is_among rank (first_group g) then second_group g else first_group g) else g.members

-- there is one, and it has two groups
abbrev pub is_some_inter : Option Communicator → Bool
is_some_inter None = false
is_some_inter (Some g) = is_inter g

-- the one of this id is an intercommunicator
abbrev pub is_intercomm : List Communicator → ℕ → Bool
is_intercomm gs comm = is_some_inter (one_of gs comm)

-- its members
abbrev pub members_of : List Communicator → ℕ → Option (List ℕ)
members_of gs comm = option_map (λ g. g.members) (one_of gs comm)

-- its sort
abbrev pub object_of_comm : List Communicator → ℕ → Option Object
object_of_comm gs comm = option_map (λ g. g.object) (one_of gs comm)

-- the group of this one in which a rank is, and its peers
abbrev pub local_group_of : List Communicator → ℕ → ℕ → Option (List ℕ)
local_group_of gs comm rank = option_map (local_group rank) (one_of gs comm)

abbrev pub peers_of : List Communicator → ℕ → ℕ → Option (List ℕ)
peers_of gs comm rank = option_map (peers rank) (one_of gs comm)

-- the rank is a member
abbrev pub has_member : ℕ → Communicator → Bool
has_member rank g = list_any (λ r. r == rank) g.members

-- the ids of those that hold the rank
abbrev pub ids_with : ℕ → List Communicator → List ℕ
ids_with rank gs = ids (filter (has_member rank) gs)

-- two at different places of the list pass the test
abbrev pub has_pair : {X : Type 0} → (X → X → Bool) → List X → Bool
has_pair test [] = false
has_pair test (x ∷ xs) = list_any (test x) xs || has_pair test xs

-- some number stands in the list twice
abbrev pub has_double : List ℕ → Bool
has_double xs = has_pair (λ x y. y == x) xs

-- The same communicators in an order in which no id falls. Each id names what it named.
pub record InOrder (given sorted : List Communicator) : Type 0 where
  pub same : IsPermutation given sorted
  pub rising : IsNonDecreasingBy (λ g. g.comm) sorted
  pub found : (comm : ℕ) → one_of sorted comm ≡ one_of given comm
