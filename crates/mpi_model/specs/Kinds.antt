-- The kinds of collective calls: one table (MPI 4.0, chapters 6, 7, 8, 11, 12 and 14).
use Rattle.std.specs.Prelude.{◌≡◌, ℕ, ◌&&◌, Bool, true, false, not, List, ◌∷◌, [], Option, Some, None, codes, drop, is_some, slice_get, if◌then◌else◌}
use Rattle.mpi_model.specs.declared.kind.Category.{Category}
use Rattle.mpi_model.specs.declared.kind.Category.TheVariants.{AllToAll, OneToAll, AllToOne, Scan}
use Rattle.mpi_model.specs.declared.kind.Kind.{Kind}
use Rattle.mpi_model.specs.declared.kind.Kind.TheVariants as kinds
use Rattle.mpi_model.specs.declared.kind.ObjectParameter.{ObjectParameter}
use Rattle.mpi_model.specs.declared.kind.ObjectParameter.TheVariants.{Comm, OldComm, CommOld, LocalComm, Intercomm, Win, File}
use Rattle.mpi_model.specs.declared.object.Object.{Object}
use Rattle.mpi_model.specs.declared.object.Object.TheVariants as objects

-- Of a kind: the names of its blocking function and of its nonblocking one, where there is one (6.12); its category
-- (6.2.2); whether the others may owe a member nothing, so that its call need not wait for them where sends are
-- buffered: each rank has a count of its own, which may be 0, or the standard lets each member wait for the others and
-- promises it of none; whether it is a collective communication (6); the sort of its object, and which parameters name
-- that; and whether its functions have a form with counts of 64 bits, with `_c` behind the name.
pub record Row : Type 0 where
  pub function : List ℕ
  pub nonblocking : Option (List ℕ)
  pub category : Category
  pub may_be_owed_nothing : Bool
  pub is_communication : Bool
  pub object : Object
  pub parameter : ObjectParameter
  pub has_long_form : Bool

-- a collective communication of this category, without its names
abbrev pub communication : Category → Bool → Row
communication category may_be_owed_nothing = record { function = []; nonblocking = None; category = category; may_be_owed_nothing = may_be_owed_nothing; is_communication = true; object = objects.Communicator; parameter = Comm; has_long_form = true }

-- any other collective call on an object, without its names
abbrev pub other : Object → ObjectParameter → Bool → Bool → Row
other object parameter may_be_owed_nothing has_long_form = record { function = []; nonblocking = None; category = AllToAll; may_be_owed_nothing = may_be_owed_nothing; is_communication = false; object = object; parameter = parameter; has_long_form = has_long_form }

-- the row of a blocking function alone, and that of a function with a nonblocking one; all else is as in another row
abbrev pub blocking : List ℕ → Row → Row
blocking function like = record like { function = function }

abbrev pub both : List ℕ → List ℕ → Row → Row
both function nonblocking like = record like { function = function; nonblocking = Some nonblocking }

abbrev pub all_to_all : Row
all_to_all = communication AllToAll false

abbrev pub one_to_all : Row
one_to_all = communication OneToAll false

abbrev pub all_to_one : Row
all_to_one = communication AllToOne false

abbrev pub scan : Row
scan = communication Scan false

abbrev pub all_to_all_by_counts : Row
all_to_all_by_counts = communication AllToAll true

abbrev pub all_to_one_by_counts : Row
all_to_one_by_counts = communication AllToOne true

abbrev pub one_to_all_by_counts : Row
one_to_all_by_counts = communication OneToAll true

abbrev pub split : Row
split = other objects.Communicator OldComm false false

abbrev pub of_old_comm : Row
of_old_comm = other objects.Communicator OldComm true false

abbrev pub dist_graph : Row
dist_graph = other objects.Communicator CommOld false false

abbrev pub of_comm : Row
of_comm = other objects.Communicator Comm true false

abbrev pub of_comm_old : Row
of_comm_old = other objects.Communicator CommOld true false

abbrev pub of_local_comm : Row
of_local_comm = other objects.Communicator LocalComm true false

abbrev pub of_intercomm : Row
of_intercomm = other objects.Communicator Intercomm true false

abbrev pub of_comm_with_long_form : Row
of_comm_with_long_form = other objects.Communicator Comm true true

abbrev pub of_window : Row
of_window = other objects.Window Win true true

abbrev pub of_file : Row
of_file = other objects.File File true true

-- the table
unfoldable pub row : Kind → Row
row kinds.Barrier = both (codes "MPI_Barrier") (codes "MPI_Ibarrier") all_to_all
row kinds.Bcast = both (codes "MPI_Bcast") (codes "MPI_Ibcast") one_to_all
row kinds.Scatter = both (codes "MPI_Scatter") (codes "MPI_Iscatter") one_to_all
row kinds.Gather = both (codes "MPI_Gather") (codes "MPI_Igather") all_to_one
row kinds.Reduce = both (codes "MPI_Reduce") (codes "MPI_Ireduce") all_to_one
row kinds.Allreduce = both (codes "MPI_Allreduce") (codes "MPI_Iallreduce") all_to_all
row kinds.Allgather = both (codes "MPI_Allgather") (codes "MPI_Iallgather") all_to_all
row kinds.Alltoall = both (codes "MPI_Alltoall") (codes "MPI_Ialltoall") all_to_all
row kinds.Scan = both (codes "MPI_Scan") (codes "MPI_Iscan") scan
row kinds.Exscan = both (codes "MPI_Exscan") (codes "MPI_Iexscan") scan
row kinds.ReduceScatterBlock = both (codes "MPI_Reduce_scatter_block") (codes "MPI_Ireduce_scatter_block") all_to_all
row kinds.ReduceScatter = both (codes "MPI_Reduce_scatter") (codes "MPI_Ireduce_scatter") all_to_all_by_counts
row kinds.Allgatherv = both (codes "MPI_Allgatherv") (codes "MPI_Iallgatherv") all_to_all_by_counts
row kinds.Alltoallv = both (codes "MPI_Alltoallv") (codes "MPI_Ialltoallv") all_to_all_by_counts
row kinds.Alltoallw = both (codes "MPI_Alltoallw") (codes "MPI_Ialltoallw") all_to_all_by_counts
row kinds.Gatherv = both (codes "MPI_Gatherv") (codes "MPI_Igatherv") all_to_one_by_counts
row kinds.Scatterv = both (codes "MPI_Scatterv") (codes "MPI_Iscatterv") one_to_all_by_counts
row kinds.CommSplit = blocking (codes "MPI_Comm_split") split
row kinds.CommSplitType = blocking (codes "MPI_Comm_split_type") of_old_comm
row kinds.DistGraphCreate = blocking (codes "MPI_Dist_graph_create") dist_graph
row kinds.CommDup = both (codes "MPI_Comm_dup") (codes "MPI_Comm_idup") of_old_comm
row kinds.CommDupWithInfo = both (codes "MPI_Comm_dup_with_info") (codes "MPI_Comm_idup_with_info") of_old_comm
row kinds.CommCreate = blocking (codes "MPI_Comm_create") of_old_comm
row kinds.CommFree = blocking (codes "MPI_Comm_free") of_comm
row kinds.CommDisconnect = blocking (codes "MPI_Comm_disconnect") of_comm
row kinds.CartCreate = blocking (codes "MPI_Cart_create") of_comm_old
row kinds.GraphCreate = blocking (codes "MPI_Graph_create") of_comm_old
row kinds.DistGraphCreateAdjacent = blocking (codes "MPI_Dist_graph_create_adjacent") of_comm_old
row kinds.CartSub = blocking (codes "MPI_Cart_sub") of_old_comm
row kinds.IntercommCreate = blocking (codes "MPI_Intercomm_create") of_local_comm
row kinds.CommSpawn = blocking (codes "MPI_Comm_spawn") of_comm
row kinds.CommSpawnMultiple = blocking (codes "MPI_Comm_spawn_multiple") of_comm
row kinds.CommAccept = blocking (codes "MPI_Comm_accept") of_comm
row kinds.CommConnect = blocking (codes "MPI_Comm_connect") of_comm
row kinds.WinCreate = blocking (codes "MPI_Win_create") of_comm_with_long_form
row kinds.WinAllocate = blocking (codes "MPI_Win_allocate") of_comm_with_long_form
row kinds.WinAllocateShared = blocking (codes "MPI_Win_allocate_shared") of_comm_with_long_form
row kinds.WinCreateDynamic = blocking (codes "MPI_Win_create_dynamic") of_comm_with_long_form
row kinds.FileOpen = blocking (codes "MPI_File_open") of_comm_with_long_form
row kinds.NeighborAllgather = both (codes "MPI_Neighbor_allgather") (codes "MPI_Ineighbor_allgather") of_comm_with_long_form
row kinds.NeighborAllgatherv = both (codes "MPI_Neighbor_allgatherv") (codes "MPI_Ineighbor_allgatherv") of_comm_with_long_form
row kinds.NeighborAlltoall = both (codes "MPI_Neighbor_alltoall") (codes "MPI_Ineighbor_alltoall") of_comm_with_long_form
row kinds.NeighborAlltoallv = both (codes "MPI_Neighbor_alltoallv") (codes "MPI_Ineighbor_alltoallv") of_comm_with_long_form
row kinds.NeighborAlltoallw = both (codes "MPI_Neighbor_alltoallw") (codes "MPI_Ineighbor_alltoallw") of_comm_with_long_form
row kinds.WinFence = blocking (codes "MPI_Win_fence") of_window
row kinds.WinFree = blocking (codes "MPI_Win_free") of_window
row kinds.FileClose = blocking (codes "MPI_File_close") of_file
row kinds.FileSetView = blocking (codes "MPI_File_set_view") of_file
row kinds.FileSetSize = blocking (codes "MPI_File_set_size") of_file
row kinds.FilePreallocate = blocking (codes "MPI_File_preallocate") of_file
row kinds.FileSync = blocking (codes "MPI_File_sync") of_file
row kinds.FileSetAtomicity = blocking (codes "MPI_File_set_atomicity") of_file
row kinds.FileSeekShared = blocking (codes "MPI_File_seek_shared") of_file
row kinds.FileReadAll = both (codes "MPI_File_read_all") (codes "MPI_File_iread_all") of_file
row kinds.FileReadAtAll = both (codes "MPI_File_read_at_all") (codes "MPI_File_iread_at_all") of_file
row kinds.FileReadOrdered = blocking (codes "MPI_File_read_ordered") of_file
row kinds.FileWriteAll = both (codes "MPI_File_write_all") (codes "MPI_File_iwrite_all") of_file
row kinds.FileWriteAtAll = both (codes "MPI_File_write_at_all") (codes "MPI_File_iwrite_at_all") of_file
row kinds.FileWriteOrdered = blocking (codes "MPI_File_write_ordered") of_file
row kinds.FileReadAllBegin = blocking (codes "MPI_File_read_all_begin") of_file
row kinds.FileReadAtAllBegin = blocking (codes "MPI_File_read_at_all_begin") of_file
row kinds.FileReadOrderedBegin = blocking (codes "MPI_File_read_ordered_begin") of_file
row kinds.FileWriteAllBegin = blocking (codes "MPI_File_write_all_begin") of_file
row kinds.FileWriteAtAllBegin = blocking (codes "MPI_File_write_at_all_begin") of_file
row kinds.FileWriteOrderedBegin = blocking (codes "MPI_File_write_ordered_begin") of_file
row kinds.FileReadAllEnd = blocking (codes "MPI_File_read_all_end") of_file
row kinds.FileReadAtAllEnd = blocking (codes "MPI_File_read_at_all_end") of_file
row kinds.FileReadOrderedEnd = blocking (codes "MPI_File_read_ordered_end") of_file
row kinds.FileWriteAllEnd = blocking (codes "MPI_File_write_all_end") of_file
row kinds.FileWriteAtAllEnd = blocking (codes "MPI_File_write_at_all_end") of_file
row kinds.FileWriteOrderedEnd = blocking (codes "MPI_File_write_ordered_end") of_file
row kinds.CommSetInfo = blocking (codes "MPI_Comm_set_info") of_comm
row kinds.WinSetInfo = blocking (codes "MPI_Win_set_info") of_window
row kinds.FileSetInfo = blocking (codes "MPI_File_set_info") of_file
row kinds.IntercommMerge = blocking (codes "MPI_Intercomm_merge") of_intercomm

-- the number of a kind: its code in a frame
unfoldable pub kind_number : Kind → ℕ
kind_number kinds.Barrier = 0
kind_number kinds.Bcast = 1
kind_number kinds.Scatter = 2
kind_number kinds.Gather = 3
kind_number kinds.Reduce = 4
kind_number kinds.Allreduce = 5
kind_number kinds.Allgather = 6
kind_number kinds.Alltoall = 7
kind_number kinds.Scan = 8
kind_number kinds.Exscan = 9
kind_number kinds.ReduceScatterBlock = 10
kind_number kinds.ReduceScatter = 11
kind_number kinds.Allgatherv = 12
kind_number kinds.Alltoallv = 13
kind_number kinds.Alltoallw = 14
kind_number kinds.Gatherv = 15
kind_number kinds.Scatterv = 16
kind_number kinds.CommSplit = 17
kind_number kinds.CommSplitType = 18
kind_number kinds.DistGraphCreate = 19
kind_number kinds.CommDup = 20
kind_number kinds.CommDupWithInfo = 21
kind_number kinds.CommCreate = 22
kind_number kinds.CommFree = 23
kind_number kinds.CommDisconnect = 24
kind_number kinds.CartCreate = 25
kind_number kinds.GraphCreate = 26
kind_number kinds.DistGraphCreateAdjacent = 27
kind_number kinds.CartSub = 28
kind_number kinds.IntercommCreate = 29
kind_number kinds.CommSpawn = 30
kind_number kinds.CommSpawnMultiple = 31
kind_number kinds.CommAccept = 32
kind_number kinds.CommConnect = 33
kind_number kinds.WinCreate = 34
kind_number kinds.WinAllocate = 35
kind_number kinds.WinAllocateShared = 36
kind_number kinds.WinCreateDynamic = 37
kind_number kinds.FileOpen = 38
kind_number kinds.NeighborAllgather = 39
kind_number kinds.NeighborAllgatherv = 40
kind_number kinds.NeighborAlltoall = 41
kind_number kinds.NeighborAlltoallv = 42
kind_number kinds.NeighborAlltoallw = 43
kind_number kinds.WinFence = 44
kind_number kinds.WinFree = 45
kind_number kinds.FileClose = 46
kind_number kinds.FileSetView = 47
kind_number kinds.FileSetSize = 48
kind_number kinds.FilePreallocate = 49
kind_number kinds.FileSync = 50
kind_number kinds.FileSetAtomicity = 51
kind_number kinds.FileSeekShared = 52
kind_number kinds.FileReadAll = 53
kind_number kinds.FileReadAtAll = 54
kind_number kinds.FileReadOrdered = 55
kind_number kinds.FileWriteAll = 56
kind_number kinds.FileWriteAtAll = 57
kind_number kinds.FileWriteOrdered = 58
kind_number kinds.FileReadAllBegin = 59
kind_number kinds.FileReadAtAllBegin = 60
kind_number kinds.FileReadOrderedBegin = 61
kind_number kinds.FileWriteAllBegin = 62
kind_number kinds.FileWriteAtAllBegin = 63
kind_number kinds.FileWriteOrderedBegin = 64
kind_number kinds.FileReadAllEnd = 65
kind_number kinds.FileReadAtAllEnd = 66
kind_number kinds.FileReadOrderedEnd = 67
kind_number kinds.FileWriteAllEnd = 68
kind_number kinds.FileWriteAtAllEnd = 69
kind_number kinds.FileWriteOrderedEnd = 70
kind_number kinds.CommSetInfo = 71
kind_number kinds.WinSetInfo = 72
kind_number kinds.FileSetInfo = 73
kind_number kinds.IntercommMerge = 74

-- all kinds, in the order of their numbers
unfoldable pub all_kinds : List Kind
all_kinds = kinds.Barrier ∷ kinds.Bcast ∷ kinds.Scatter ∷ kinds.Gather ∷ kinds.Reduce ∷ kinds.Allreduce ∷ kinds.Allgather ∷ kinds.Alltoall ∷ kinds.Scan ∷ kinds.Exscan ∷ kinds.ReduceScatterBlock ∷ kinds.ReduceScatter ∷ kinds.Allgatherv ∷ kinds.Alltoallv ∷ kinds.Alltoallw ∷ kinds.Gatherv ∷ kinds.Scatterv ∷ kinds.CommSplit ∷ kinds.CommSplitType ∷ kinds.DistGraphCreate ∷ kinds.CommDup ∷ kinds.CommDupWithInfo ∷ kinds.CommCreate ∷ kinds.CommFree ∷ kinds.CommDisconnect ∷ kinds.CartCreate ∷ kinds.GraphCreate ∷ kinds.DistGraphCreateAdjacent ∷ kinds.CartSub ∷ kinds.IntercommCreate ∷ kinds.CommSpawn ∷ kinds.CommSpawnMultiple ∷ kinds.CommAccept ∷ kinds.CommConnect ∷ kinds.WinCreate ∷ kinds.WinAllocate ∷ kinds.WinAllocateShared ∷ kinds.WinCreateDynamic ∷ kinds.FileOpen ∷ kinds.NeighborAllgather ∷ kinds.NeighborAllgatherv ∷ kinds.NeighborAlltoall ∷ kinds.NeighborAlltoallv ∷ kinds.NeighborAlltoallw ∷ kinds.WinFence ∷ kinds.WinFree ∷ kinds.FileClose ∷ kinds.FileSetView ∷ kinds.FileSetSize ∷ kinds.FilePreallocate ∷ kinds.FileSync ∷ kinds.FileSetAtomicity ∷ kinds.FileSeekShared ∷ kinds.FileReadAll ∷ kinds.FileReadAtAll ∷ kinds.FileReadOrdered ∷ kinds.FileWriteAll ∷ kinds.FileWriteAtAll ∷ kinds.FileWriteOrdered ∷ kinds.FileReadAllBegin ∷ kinds.FileReadAtAllBegin ∷ kinds.FileReadOrderedBegin ∷ kinds.FileWriteAllBegin ∷ kinds.FileWriteAtAllBegin ∷ kinds.FileWriteOrderedBegin ∷ kinds.FileReadAllEnd ∷ kinds.FileReadAtAllEnd ∷ kinds.FileReadOrderedEnd ∷ kinds.FileWriteAllEnd ∷ kinds.FileWriteAtAllEnd ∷ kinds.FileWriteOrderedEnd ∷ kinds.CommSetInfo ∷ kinds.WinSetInfo ∷ kinds.FileSetInfo ∷ kinds.IntercommMerge ∷ []

-- the kind of a number
unfoldable pub kind_of : ℕ → Option Kind
kind_of number = slice_get all_kinds number

-- the categories in which one rank, the root, sends to all or receives from all (MPI 4.0, 6.2.2)
abbrev pub is_rooted : Category → Bool
is_rooted AllToAll = false
is_rooted OneToAll = true
is_rooted AllToOne = true
is_rooted Scan = false

-- data goes from or to one rank, the root
abbrev pub has_root : Kind → Bool
has_root kind = is_rooted (row kind).category

-- the kind has a nonblocking function
abbrev pub has_nonblocking : Kind → Bool
has_nonblocking kind = is_some (row kind).nonblocking

-- the number of a sort of objects, each its own
abbrev pub object_number : Object → ℕ
object_number objects.Communicator = 0
object_number objects.Window = 1
object_number objects.File = 2

-- a collective function: of a kind, and blocking or not
pub record KindFunction : Type 0 where
  pub kind : Kind
  pub nonblocking : Bool

-- there is one
abbrev pub is_function : KindFunction → Bool
is_function f = if f.nonblocking then has_nonblocking f.kind else true

-- a name, where there is one
abbrev pub name_or_none : Option (List ℕ) → List ℕ
name_or_none None = []
name_or_none (Some name) = name

-- the name of a function
abbrev pub function_name : KindFunction → List ℕ
function_name f = if f.nonblocking then name_or_none (row f.kind).nonblocking else (row f.kind).function

-- its name without `MPI_`: in small letters it is its word in a report
abbrev pub short_name : KindFunction → List ℕ
short_name f = drop 4 (function_name f)
