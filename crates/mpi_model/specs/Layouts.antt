-- What a layout is, and why there is none.
use Rattle.std.specs.Prelude.{◌≡◌, ◌<◌, ◌≤◌, ℕ, ◌+◌, ◌==◌, ◌&&◌, ◌||◌, Bool, true, false, not, List, [], ◌∷◌, Option, Some, None, All, eqb, nat_lt, nat_le, length, if◌then◌else◌}
use Rattle.std.specs.List.{list_any, IsDistinct, range_with_len}
use Rattle.std.specs.List.Sorted.{IsPermutation, IsStrictlyIncreasing}
use Rattle.mpi_model.specs.declared.layout.Sends.{Sends}
use Rattle.mpi_model.specs.declared.layout.TheConstants.{MOST_RANKS, MOST_COMMS}
use Rattle.mpi_model.specs.declared.layout.fault.LayoutFault.{LayoutFault}
use Rattle.mpi_model.specs.declared.layout.fault.LayoutFault.TheVariants.{RankCount, CommCount, DoubleComm, EmptyComm, MemberRange, DoubleMember, World, Numbers}
use Rattle.mpi_model.specs.declared.layout.comm.Stretch.{Stretch}
use Rattle.mpi_model.specs.declared.envelope.CommRef.{CommRef}
use Rattle.mpi_model.specs.declared.object.Object.{Object}
use Rattle.mpi_model.specs.declared.object.Object.TheVariants.{Communicator as a_communicator}
use Rattle.mpi_model.specs.Kinds.{object_number}
use Rattle.mpi_model.specs.declared.envelope.CommRef.TheVariants as comms
use Rattle.mpi_model.specs.Communicators.{Communicator, has_double, ids, is_intercomm, members_of, object_of_comm}
use Rattle.mpi_model.specs.Names.{has_clash, numbered}

-- what a layout holds
pub record Parts : Type 0 where
  pub ranks : ℕ
  pub world : ℕ
  pub sends : Sends
  pub comms : List Communicator

-- A group: an ordered set of ranks of the run, with at least one (MPI 4.0, 7.2.1).
pub record IsGroup (ranks : ℕ) (members : List ℕ) : Type 0 where
  pub some : 0 < length members
  pub in_range : All (λ r. r < ranks) members
  pub distinct : IsDistinct eqb members

-- What holds of every layout. The world is a communicator of one group, of all ranks in their order (MPI 4.0, 11.2).
pub record IsLayout (l : Parts) : Type 0 where
  pub some_rank : 0 < l.ranks
  pub few_ranks : l.ranks ≤ MOST_RANKS
  pub few_comms : length l.comms ≤ MOST_COMMS
  pub rising : IsStrictlyIncreasing (ids l.comms)
  pub groups : All (λ g. IsGroup l.ranks g.members) l.comms
  pub world : members_of l.comms l.world ≡ Some (range_with_len 0 l.ranks)
  pub world_object : object_of_comm l.comms l.world ≡ Some a_communicator
  pub world_group : is_intercomm l.comms l.world ≡ false

-- The layout holds what was given: the same communicators, each with its members and numbers.
pub record Holds (ranks world : ℕ) (sends : Sends) (given : List Communicator) (l : Parts) : Type 0 where
  pub same_ranks : l.ranks ≡ ranks
  pub same_world : l.world ≡ world
  pub same_sends : l.sends ≡ sends
  pub same_comms : IsPermutation given l.comms
  pub members : (comm : ℕ) → members_of l.comms comm ≡ members_of given comm
  pub objects : (comm : ℕ) → object_of_comm l.comms comm ≡ object_of_comm given comm
  pub groups : (comm : ℕ) → is_intercomm l.comms comm ≡ is_intercomm given comm

-- No member stands in its first group: it has none at all, or only those of a second one.
abbrev pub is_empty_group : Communicator → Bool
is_empty_group g = nat_le (length g.members) g.remote_size

-- some member is no rank of the run
abbrev pub has_stranger : ℕ → List ℕ → Bool
has_stranger ranks members = list_any (λ r. nat_le ranks r) members

-- a communicator that has a rank twice
abbrev pub has_double_member : Communicator → Bool
has_double_member g = has_double g.members

-- the numbers are first, first + 1, and so on
abbrev pub counts_from : ℕ → List ℕ → Bool
counts_from first [] = true
counts_from first (x ∷ xs) = (x == first) && counts_from (first + 1) xs

-- the members are the ranks from 0 to ranks - 1 in order
abbrev pub is_whole : ℕ → List ℕ → Bool
is_whole ranks members = (length members == ranks) && counts_from 0 members

-- there is a list, and it is that of all ranks in their order
abbrev pub is_some_whole : ℕ → Option (List ℕ) → Bool
is_some_whole ranks None = false
is_some_whole ranks (Some members) = is_whole ranks members

-- there is an object, and it is a communicator
abbrev pub is_some_communicator : Option Object → Bool
is_some_communicator None = false
is_some_communicator (Some object) = object_number object == object_number a_communicator

-- the world is there, is a communicator of one group, and has all ranks in order
abbrev pub has_world : ℕ → ℕ → List Communicator → Bool
has_world ranks world gs = is_some_communicator (object_of_comm gs world) && (not (is_intercomm gs world) && is_some_whole ranks (members_of gs world))

-- there is an end, and it comes before a call
abbrev pub ends_before : Option ℕ → ℕ → Bool
ends_before None call = false
ends_before (Some end) call = nat_lt end call

-- the stretch ends before its first call
abbrev pub is_backward : Option Stretch → Bool
is_backward None = false
is_backward (Some s) = ends_before s.end s.first

-- the numbers are neither absent nor one for each member, or some stretch ends before its first call
abbrev pub has_wrong_numbers : Communicator → Bool
has_wrong_numbers g = not ((length g.numbers == 0) || (length g.numbers == length g.members)) || list_any is_backward g.numbers

-- the numbers are wrong, or some rank gives a number two meanings in one call
abbrev pub number_fault : List Communicator → Option LayoutFault
number_fault gs = if list_any has_wrong_numbers gs || has_clash gs then Some Numbers else None

-- the first fault of these communicators, where they are not too many
abbrev pub comm_fault : ℕ → ℕ → List Communicator → Option LayoutFault
comm_fault ranks world gs =
    if has_double (ids gs) then Some DoubleComm
    else if list_any is_empty_group gs then Some EmptyComm
    else if list_any (λ g. has_stranger ranks g.members) gs then Some MemberRange
    else if list_any has_double_member gs then Some DoubleMember
    else if has_world ranks world gs then number_fault gs
    else Some World

-- The first fault of a layout of these communicators, in the order of the numbers.
abbrev pub fault_of : ℕ → ℕ → List Communicator → Option LayoutFault
fault_of ranks world gs =
    if (ranks == 0) || nat_lt MOST_RANKS ranks then Some RankCount
    else if nat_lt MOST_COMMS (length gs) then Some CommCount
    else comm_fault ranks world gs

-- The object that a call of a rank names: the world for every rank of the run, or the one of this sort that the rank
-- names so in this call.
abbrev pub named : Parts → ℕ → ℕ → Object → CommRef → Option ℕ
named l rank call object comms.World = if nat_lt rank l.ranks then Some l.world else None
named l rank call object (comms.Id number) = numbered object l.comms rank call number
