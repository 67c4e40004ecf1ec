-- What is said of a layout that was made.
use Rattle.std.specs.Prelude.{◌-◌, ℕ, List, [], ◌++◌, Option, Some, None, length, codes, decimal, nat_lt, take, if◌then◌else◌}
use Rattle.std.specs.List.{flat_map}
use Rattle.call_words.specs.More.{more_text}
use Rattle.call_words.specs.Ranges.{named_ranks_text}
use Rattle.mpi_model.specs.Communicators.{Communicator, first_group, is_inter, second_group}
use Rattle.mpi_model.specs.declared.object.Object.{Object}
use Rattle.mpi_model.specs.declared.object.Object.TheVariants as objects
use Rattle.comm_makings.specs.declared.answer.LeftOut.{LeftOut}
use Rattle.comm_makings.specs.declared.answer.MadeBy.{MadeBy}
use Rattle.comm_makings.specs.declared.answer.MadeBy.TheVariants as makers
use Rattle.comm_makings.specs.declared.answer.Why.{Why}
use Rattle.comm_makings.specs.declared.calls.OtherMaker.{OtherMaker}
use Rattle.comm_makings.specs.declared.calls.OtherMaker.TheVariants as others
use Rattle.comm_makings.specs.declared.answer.Why.TheVariants as reasons
use Rattle.text_layouts.specs.declared.words.TheConstants.{MOST_SHOWN}

-- `ranks: 4, calls: 120`
abbrev pub counts_text : ℕ → ℕ → List ℕ
counts_text ranks calls = codes "ranks: " ++ decimal ranks ++ codes ", calls: " ++ decimal calls ++ codes "\n"

-- the sort of object; nothing of a communicator
abbrev pub sort_text : Object → List ℕ
sort_text objects.Communicator = []
sort_text objects.Window = codes "window "
sort_text objects.File = codes "file "

-- ` and ranks 2, 3`: the second group of an intercommunicator
abbrev pub second_text : Communicator → List ℕ
second_text g = if is_inter g then codes " and " ++ named_ranks_text (second_group g) else []

-- `  5: ranks 0, 2`, the members in their order, or `  window 9: ranks 0, 1`; `  7: ranks 0, 1 and ranks 2, 3` of an
-- intercommunicator
abbrev pub comm_text : Communicator → List ℕ
comm_text g = codes "  " ++ sort_text g.object ++ decimal g.comm ++ codes ": " ++ named_ranks_text (first_group g) ++ second_text g ++ codes "\n"

-- how many communicators, windows and files there are, and the first twenty of them
abbrev pub comms_text : List Communicator → List ℕ
comms_text comms = codes "communicators: " ++ decimal (length comms) ++ codes "\n"
    ++ flat_map comm_text (take MOST_SHOWN comms) ++ more_text (length comms - MOST_SHOWN)

-- a function that gives communicators from which nothing is derived
abbrev pub other_text : OtherMaker → List ℕ
other_text others.SplitType = codes "MPI_Comm_split_type"
other_text others.Accept = codes "MPI_Comm_accept"
other_text others.Connect = codes "MPI_Comm_connect"
other_text others.CreateFromGroup = codes "MPI_Comm_create_from_group"
other_text others.IntercommCreateFromGroups = codes "MPI_Intercomm_create_from_groups"
other_text others.Spawn = codes "MPI_Comm_spawn"
other_text others.SpawnMultiple = codes "MPI_Comm_spawn_multiple"
other_text others.Join = codes "MPI_Comm_join"
other_text others.GetParent = codes "MPI_Comm_get_parent"

-- the function that gave a communicator
abbrev pub function_text : MadeBy → List ℕ
function_text makers.Dup = codes "MPI_Comm_dup"
function_text makers.DupWithInfo = codes "MPI_Comm_dup_with_info"
function_text makers.Idup = codes "MPI_Comm_idup"
function_text makers.IdupWithInfo = codes "MPI_Comm_idup_with_info"
function_text makers.Split = codes "MPI_Comm_split"
function_text makers.Create = codes "MPI_Comm_create"
function_text makers.CreateGroup = codes "MPI_Comm_create_group"
function_text makers.CartCreate = codes "MPI_Cart_create"
function_text makers.CartSub = codes "MPI_Cart_sub"
function_text makers.GraphCreate = codes "MPI_Graph_create"
function_text makers.DistGraphCreate = codes "MPI_Dist_graph_create"
function_text makers.DistGraphCreateAdjacent = codes "MPI_Dist_graph_create_adjacent"
function_text makers.IntercommCreate = codes "MPI_Intercomm_create"
function_text makers.IntercommMerge = codes "MPI_Intercomm_merge"
function_text (makers.Other maker) = other_text maker

-- why a communicator is left out
abbrev pub why_text : Why → List ℕ
why_text reasons.Function = codes "nothing is derived from calls of this function"
why_text reasons.Taken = codes "the number is that of MPI_COMM_WORLD or MPI_COMM_SELF"
why_text reasons.UnknownParent = codes "its parent, or that of an earlier call, is unknown"
why_text reasons.Parent = codes "its parent is left out"
why_text reasons.Untold = codes "a member has no such call, or the texts don't tell the order of its ranks"
why_text reasons.Unsound = codes "the members' calls don't agree, or a parameter is unknown"
why_text reasons.Behind = codes "an earlier one of the same parent is left out"

-- the number of a communicator that is left out
abbrev pub given_text : Option ℕ → List ℕ
given_text None = codes "an unknown number"
given_text (Some number) = decimal number

-- `  rank 1, call 12, MPI_Comm_split: 5, calls that name it: 3 (its parent is left out)`
abbrev pub left_text : LeftOut → List ℕ
left_text l = codes "  rank " ++ decimal l.rank ++ codes ", call " ++ decimal l.call ++ codes ", " ++ function_text l.made_by ++ codes ": " ++ given_text l.number
    ++ codes ", calls that name it: " ++ decimal l.uses ++ codes " (" ++ why_text l.why ++ codes ")\n"

-- how many communicators are left out, and the first twenty of them
abbrev pub some_left_text : List LeftOut → List ℕ
some_left_text left_out = codes "left out: " ++ decimal (length left_out) ++ codes "\n"
    ++ flat_map left_text (take MOST_SHOWN left_out) ++ more_text (length left_out - MOST_SHOWN)

-- what is said of communicators that are left out: nothing where there is none
abbrev pub left_out_text : List LeftOut → List ℕ
left_out_text left_out = if nat_lt 0 (length left_out) then some_left_text left_out else []

-- all that is said of a layout
abbrev pub notes_text : ℕ → ℕ → List Communicator → List LeftOut → List ℕ
notes_text ranks calls comms left_out = counts_text ranks calls ++ comms_text comms ++ left_out_text left_out
