-- The functions that make, name or free communicators and groups, windows and files. Names are compared byte for byte.
use Rattle.std.specs.Prelude.{◌||◌, ℕ, Bool, List, Option, Some, None, codes, option_map, if◌then◌else◌}
use Rattle.std.specs.Str.{bytes_eq}
use Rattle.mpi_model.specs.declared.object.Object.{Object}
use Rattle.mpi_model.specs.declared.object.Object.TheVariants as objects
use Rattle.dumpi_text.specs.Call.{TextCall}
use Rattle.comm_makings.specs.declared.calls.ObjectMaker.{ObjectMaker}
use Rattle.comm_makings.specs.declared.calls.ObjectMaker.TheVariants as object_makers
use Rattle.comm_makings.specs.declared.calls.OtherMaker.{OtherMaker}
use Rattle.comm_makings.specs.declared.calls.OtherMaker.TheVariants as givers
use Rattle.comm_calls.specs.declared.function.Function.{Function}
use Rattle.comm_calls.specs.declared.function.Function.TheVariants as functions
use Rattle.comm_calls.specs.declared.function.Grouper.{Grouper}
use Rattle.comm_calls.specs.declared.function.Grouper.TheVariants as groupers
use Rattle.comm_calls.specs.declared.function.Maker.{Maker}
use Rattle.comm_calls.specs.declared.function.Maker.TheVariants as makers

-- constructors of communicators (MPI 4.0, 7.4.2)
abbrev pub maker_named : List ℕ → Option Maker
maker_named name =
    if bytes_eq name (codes "MPI_Comm_dup") then Some makers.Dup
    else if bytes_eq name (codes "MPI_Comm_dup_with_info") then Some makers.DupWithInfo
    else if bytes_eq name (codes "MPI_Comm_idup") then Some makers.Idup
    else if bytes_eq name (codes "MPI_Comm_idup_with_info") then Some makers.IdupWithInfo
    else if bytes_eq name (codes "MPI_Comm_split") then Some makers.Split
    else if bytes_eq name (codes "MPI_Comm_create") then Some makers.Create
    else if bytes_eq name (codes "MPI_Comm_create_group") then Some makers.CreateGroup
    else None

-- constructors of communicators with a topology (MPI 4.0, 8.5)
abbrev pub grid_named : List ℕ → Option Maker
grid_named name =
    if bytes_eq name (codes "MPI_Cart_create") then Some makers.CartCreate
    else if bytes_eq name (codes "MPI_Cart_sub") then Some makers.CartSub
    else if bytes_eq name (codes "MPI_Graph_create") then Some makers.GraphCreate
    else if bytes_eq name (codes "MPI_Dist_graph_create") then Some makers.DistGraphCreate
    else if bytes_eq name (codes "MPI_Dist_graph_create_adjacent") then Some makers.DistGraphCreateAdjacent
    else None

-- other functions that give a group: the remote one of an intercommunicator, or one whose ranks are unknown
abbrev pub other_group_named : List ℕ → Option Grouper
other_group_named name =
    if bytes_eq name (codes "MPI_Comm_remote_group") then Some groupers.OfRemote
    else if bytes_eq name (codes "MPI_Win_get_group") then Some groupers.Unread
    else if bytes_eq name (codes "MPI_File_get_group") then Some groupers.Unread
    else if bytes_eq name (codes "MPI_Group_from_session_pset") then Some groupers.UnreadNew
    else None

-- constructors of groups (MPI 4.0, 7.3.2)
abbrev pub group_named : List ℕ → Option Grouper
group_named name =
    if bytes_eq name (codes "MPI_Comm_group") then Some groupers.OfComm
    else if bytes_eq name (codes "MPI_Group_incl") then Some groupers.Incl
    else if bytes_eq name (codes "MPI_Group_excl") then Some groupers.Excl
    else if bytes_eq name (codes "MPI_Group_range_incl") then Some groupers.RangeIncl
    else if bytes_eq name (codes "MPI_Group_range_excl") then Some groupers.RangeExcl
    else if bytes_eq name (codes "MPI_Group_union") then Some groupers.Union
    else if bytes_eq name (codes "MPI_Group_intersection") then Some groupers.Intersection
    else if bytes_eq name (codes "MPI_Group_difference") then Some groupers.Difference
    else other_group_named name

-- other functions that give a communicator (MPI 4.0, 7.4.2, 7.6.2 and 11.8 to 11.10)
abbrev pub giver_named : List ℕ → Option OtherMaker
giver_named name =
    if bytes_eq name (codes "MPI_Comm_split_type") then Some givers.SplitType
    else if bytes_eq name (codes "MPI_Comm_accept") then Some givers.Accept
    else if bytes_eq name (codes "MPI_Comm_connect") then Some givers.Connect
    else if bytes_eq name (codes "MPI_Comm_create_from_group") then Some givers.CreateFromGroup
    else if bytes_eq name (codes "MPI_Intercomm_create_from_groups") then Some givers.IntercommCreateFromGroups
    else if bytes_eq name (codes "MPI_Comm_spawn") then Some givers.Spawn
    else if bytes_eq name (codes "MPI_Comm_spawn_multiple") then Some givers.SpawnMultiple
    else if bytes_eq name (codes "MPI_Comm_join") then Some givers.Join
    else if bytes_eq name (codes "MPI_Comm_get_parent") then Some givers.GetParent
    else None

-- what tells a rank its own, what frees, and what joins and merges groups (MPI 4.0, 7.4.1, 7.4.3, 7.6.2 and 11.10.4)
abbrev pub single_named : List ℕ → Option Function
single_named name =
    if bytes_eq name (codes "MPI_Comm_rank") then Some functions.Rank
    else if bytes_eq name (codes "MPI_Comm_free") then Some functions.Free
    else if bytes_eq name (codes "MPI_Comm_disconnect") then Some functions.Free
    else if bytes_eq name (codes "MPI_Intercomm_create") then Some functions.Join
    else if bytes_eq name (codes "MPI_Intercomm_merge") then Some functions.Merge
    else None

-- the name is one of these two
abbrev pub is_either : List ℕ → List ℕ → List ℕ → Bool
is_either name word other = bytes_eq name word || bytes_eq name other

-- constructors of windows (MPI 4.0, 12.2) and files (14.2.1), also by their names for great counts
abbrev pub object_maker_named : List ℕ → Option ObjectMaker
object_maker_named name =
    if is_either name (codes "MPI_Win_create") (codes "MPI_Win_create_c") then Some object_makers.WinCreate
    else if is_either name (codes "MPI_Win_allocate") (codes "MPI_Win_allocate_c") then Some object_makers.WinAllocate
    else if is_either name (codes "MPI_Win_allocate_shared") (codes "MPI_Win_allocate_shared_c") then Some object_makers.WinAllocateShared
    else if is_either name (codes "MPI_Win_create_dynamic") (codes "MPI_Win_create_dynamic_c") then Some object_makers.WinCreateDynamic
    else if is_either name (codes "MPI_File_open") (codes "MPI_File_open_c") then Some object_makers.FileOpen
    else None

-- the sort of what a function ends (MPI 4.0, 12.2.5 and 14.2.2)
abbrev pub ender_named : List ℕ → Option Object
ender_named name =
    if is_either name (codes "MPI_Win_free") (codes "MPI_Win_free_c") then Some objects.Window
    else if is_either name (codes "MPI_File_close") (codes "MPI_File_close_c") then Some objects.File
    else None

-- the first of two that is there
abbrev pub first_of : Option Function → Option Function → Option Function
first_of (Some function) next = Some function
first_of None next = next

-- the function of a name, where its calls are read
unfoldable pub function_named : List ℕ → Option Function
function_named name =
    first_of (option_map functions.Make (maker_named name))
    (first_of (option_map functions.Make (grid_named name))
    (first_of (option_map functions.Group (group_named name))
    (first_of (option_map functions.Give (giver_named name))
    (first_of (option_map functions.MakeObject (object_maker_named name))
    (first_of (option_map functions.EndObject (ender_named name)) (single_named name))))))

-- The function of a call, where it is read. One that another thread ended isn't, whatever its name is.
abbrev pub function_of : TextCall → Option Function
function_of raw = if raw.threads then None else function_named raw.name
