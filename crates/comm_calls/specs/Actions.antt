-- What a call on communicators or groups, windows or files says. A list is compared item by item.
use Rattle.std.specs.Prelude.{◌≡◌, ℕ, Bool, List, Option, None, Vec, codes, option_and_then, option_map}
use Rattle.std.specs.declared.alloc.Global.{Global}
use Rattle.mpi_model.specs.declared.object.Object.{Object}
use Rattle.mpi_model.specs.declared.object.Object.TheVariants as objects
use Rattle.dumpi_text.specs.Call.{TextCall}
use Rattle.comm_makings.specs.Objects.{object_made}
use Rattle.comm_makings.specs.declared.calls.Action.{Action}
use Rattle.comm_makings.specs.declared.calls.Action.TheVariants as actions
use Rattle.comm_makings.specs.declared.calls.GroupCall.{GroupCall}
use Rattle.comm_makings.specs.declared.calls.GroupCall.TheVariants as group_calls
use Rattle.comm_makings.specs.declared.calls.GroupName.{GroupName}
use Rattle.comm_makings.specs.declared.calls.Leaders.{Leaders}
use Rattle.comm_makings.specs.declared.calls.Making.{Making}
use Rattle.comm_makings.specs.declared.calls.Making.TheVariants as makings
use Rattle.comm_makings.specs.declared.calls.OtherMaker.{OtherMaker}
use Rattle.comm_makings.specs.declared.calls.OtherMaker.TheVariants as givers
use Rattle.comm_makings.specs.declared.calls.RankRange.{RankRange}
use Rattle.comm_calls.specs.Lists.{flags_in, ranges_in, ranks_in, sizes_in}
use Rattle.comm_calls.specs.Numbers.{color_in, comm_in, flag_in, given_in, group_in, int_in, natural_in, object_of}
use Rattle.comm_calls.specs.Parameters.{or_text, text_of}
use Rattle.comm_calls.specs.declared.function.Function.{Function}
use Rattle.comm_calls.specs.declared.function.Function.TheVariants as functions
use Rattle.comm_calls.specs.declared.function.Grouper.{Grouper}
use Rattle.comm_calls.specs.declared.function.Grouper.TheVariants as groupers
use Rattle.comm_calls.specs.declared.function.Maker.{Maker}
use Rattle.comm_calls.specs.declared.function.Maker.TheVariants as makers

-- the items of a list that was read
abbrev pub items_in : {A : Type 0} → Option (Vec A Global) → Option (List A)
items_in list = option_map (λ v. v.items) list

-- ---- makings

-- the parent of most calls, and of those that make a topology of a communicator
abbrev pub parent_text : TextCall → Option (List ℕ)
parent_text raw = or_text (text_of (codes "oldcomm") raw) (text_of (codes "comm") raw)

-- the parent of a grid or a graph, which three names may tell
abbrev pub grid_parent_text : TextCall → Option (List ℕ)
grid_parent_text raw = or_text (text_of (codes "oldcomm") raw) (or_text (text_of (codes "comm_old") raw) (text_of (codes "comm") raw))

-- the parent that a call of this function names
abbrev pub parent_of : Maker → TextCall → Option (List ℕ)
parent_of makers.CartCreate raw = grid_parent_text raw
parent_of makers.GraphCreate raw = grid_parent_text raw
parent_of makers.DistGraphCreate raw = grid_parent_text raw
parent_of makers.DistGraphCreateAdjacent raw = grid_parent_text raw
parent_of _ raw = parent_text raw

-- the communicator that is given
abbrev pub made_of : Maker → TextCall → Option (List ℕ)
made_of makers.CartCreate raw = or_text (text_of (codes "newcomm") raw) (text_of (codes "comm_cart") raw)
made_of makers.GraphCreate raw = or_text (text_of (codes "newcomm") raw) (text_of (codes "comm_graph") raw)
made_of makers.DistGraphCreate raw = or_text (text_of (codes "newcomm") raw) (text_of (codes "comm_dist_graph") raw)
made_of makers.DistGraphCreateAdjacent raw = or_text (text_of (codes "newcomm") raw) (text_of (codes "comm_dist_graph") raw)
made_of _ raw = text_of (codes "newcomm") raw

-- whether the ranks may be ordered anew
abbrev pub reorder_in : TextCall → Option Bool
reorder_in raw = flag_in (text_of (codes "reorder") raw)

-- the making is a MPI_Cart_create with these sizes
abbrev pub IsCart : Option (List ℕ) → Option Bool → Making → Type 0
IsCart sizes ordered (makings.CartCreate dims reorder) = (items_in dims ≡ sizes) × (reorder ≡ ordered)
IsCart sizes ordered _ = ⊥

-- the making is a MPI_Cart_sub that keeps these dimensions
abbrev pub IsCartSub : Option (List Bool) → Making → Type 0
IsCartSub flags (makings.CartSub remain) = items_in remain ≡ flags
IsCartSub flags _ = ⊥

-- what a call that makes communicators says
abbrev pub IsMaking : Maker → TextCall → Making → Type 0
IsMaking makers.Dup raw making = making ≡ makings.Dup
IsMaking makers.DupWithInfo raw making = making ≡ makings.DupWithInfo
IsMaking makers.Idup raw making = making ≡ makings.Idup
IsMaking makers.IdupWithInfo raw making = making ≡ makings.IdupWithInfo
IsMaking makers.Split raw making = making ≡ makings.Split (color_in (text_of (codes "color") raw)) (int_in (text_of (codes "key") raw))
IsMaking makers.Create raw making = making ≡ makings.Create (group_in (text_of (codes "group") raw))
IsMaking makers.CreateGroup raw making = making ≡ makings.CreateGroup (group_in (text_of (codes "group") raw)) (int_in (text_of (codes "tag") raw))
IsMaking makers.CartCreate raw making = IsCart (sizes_in (text_of (codes "dims") raw)) (reorder_in raw) making
IsMaking makers.CartSub raw making = IsCartSub (flags_in (text_of (codes "remain_dims") raw)) making
IsMaking makers.GraphCreate raw making = making ≡ makings.GraphCreate (int_in (or_text (text_of (codes "nodes") raw) (text_of (codes "nnodes") raw))) (reorder_in raw)
IsMaking makers.DistGraphCreate raw making = making ≡ makings.DistGraphCreate (reorder_in raw)
IsMaking makers.DistGraphCreateAdjacent raw making = making ≡ makings.DistGraphCreateAdjacent (reorder_in raw)

-- ---- groups

-- the call is a group's members at the listed ranks
abbrev pub IsIncl : GroupName → Option (List ℕ) → GroupCall → Type 0
IsIncl of listed (group_calls.Incl group ranks) = (group ≡ of) × (items_in ranks ≡ listed)
IsIncl of listed _ = ⊥

-- the call is a group's members without those at the listed ranks
abbrev pub IsExcl : GroupName → Option (List ℕ) → GroupCall → Type 0
IsExcl of listed (group_calls.Excl group ranks) = (group ≡ of) × (items_in ranks ≡ listed)
IsExcl of listed _ = ⊥

-- the call is a group's members within the listed ranges
abbrev pub IsRangeIncl : GroupName → Option (List RankRange) → GroupCall → Type 0
IsRangeIncl of listed (group_calls.RangeIncl group ranges) = (group ≡ of) × (items_in ranges ≡ listed)
IsRangeIncl of listed _ = ⊥

-- the call is a group's members outside the listed ranges
abbrev pub IsRangeExcl : GroupName → Option (List RankRange) → GroupCall → Type 0
IsRangeExcl of listed (group_calls.RangeExcl group ranges) = (group ≡ of) × (items_in ranges ≡ listed)
IsRangeExcl of listed _ = ⊥

-- the group that a parameter names
abbrev pub group_at : List ℕ → TextCall → GroupName
group_at name raw = group_in (text_of name raw)

-- what a call that gives a group says
abbrev pub IsGroupCall : Grouper → TextCall → GroupCall → Type 0
IsGroupCall groupers.OfComm raw call = call ≡ group_calls.OfComm (comm_in (text_of (codes "comm") raw))
IsGroupCall groupers.OfRemote raw call = call ≡ group_calls.OfRemote (comm_in (text_of (codes "comm") raw))
IsGroupCall groupers.Incl raw call = IsIncl (group_at (codes "group") raw) (ranks_in (text_of (codes "ranks") raw)) call
IsGroupCall groupers.Excl raw call = IsExcl (group_at (codes "group") raw) (ranks_in (text_of (codes "ranks") raw)) call
IsGroupCall groupers.RangeIncl raw call = IsRangeIncl (group_at (codes "group") raw) (ranges_in (text_of (codes "ranges") raw)) call
IsGroupCall groupers.RangeExcl raw call = IsRangeExcl (group_at (codes "group") raw) (ranges_in (text_of (codes "ranges") raw)) call
IsGroupCall groupers.Union raw call = call ≡ group_calls.Union (group_at (codes "group1") raw) (group_at (codes "group2") raw)
IsGroupCall groupers.Intersection raw call = call ≡ group_calls.Intersection (group_at (codes "group1") raw) (group_at (codes "group2") raw)
IsGroupCall groupers.Difference raw call = call ≡ group_calls.Difference (group_at (codes "group1") raw) (group_at (codes "group2") raw)
IsGroupCall groupers.Unread raw call = call ≡ group_calls.Unread
IsGroupCall groupers.UnreadNew raw call = call ≡ group_calls.Unread

-- the group that is given: by `newgroup`, where the call has one of others
abbrev pub grouped_in : Grouper → TextCall → GroupName
grouped_in groupers.OfComm raw = group_at (codes "group") raw
grouped_in groupers.OfRemote raw = group_at (codes "group") raw
grouped_in groupers.Unread raw = group_at (codes "group") raw
grouped_in _ raw = group_at (codes "newgroup") raw

-- ---- other functions

-- the communicator that another function gives
abbrev pub other_of : OtherMaker → TextCall → Option (List ℕ)
other_of givers.SplitType raw = text_of (codes "newcomm") raw
other_of givers.Accept raw = text_of (codes "newcomm") raw
other_of givers.Connect raw = text_of (codes "newcomm") raw
other_of givers.CreateFromGroup raw = text_of (codes "newcomm") raw
other_of givers.IntercommCreateFromGroups raw = text_of (codes "newintercomm") raw
other_of givers.Spawn raw = text_of (codes "intercomm") raw
other_of givers.SpawnMultiple raw = text_of (codes "intercomm") raw
other_of givers.Join raw = text_of (codes "intercomm") raw
other_of givers.GetParent raw = text_of (codes "parent") raw

-- the communicator that such a function is called on (MPI 4.0, 7.4.2, 7.6.2 and 11.8 to 11.10)
abbrev pub called_on : OtherMaker → TextCall → Option (List ℕ)
called_on givers.SplitType raw = parent_text raw
called_on givers.Accept raw = text_of (codes "comm") raw
called_on givers.Connect raw = text_of (codes "comm") raw
called_on givers.CreateFromGroup raw = text_of (codes "comm") raw
called_on givers.IntercommCreateFromGroups raw = None
called_on givers.Spawn raw = text_of (codes "comm") raw
called_on givers.SpawnMultiple raw = text_of (codes "comm") raw
called_on givers.Join raw = text_of (codes "comm") raw
called_on givers.GetParent raw = None

-- ---- intercommunicators

-- what a call of MPI_Intercomm_create says of the leaders
abbrev pub leaders_in : TextCall → Leaders
leaders_in raw = record {
  own = natural_in (text_of (codes "local_leader") raw);
  bridge = comm_in (or_text (text_of (codes "peer_comm") raw) (text_of (codes "bridge_comm") raw));
  other = natural_in (text_of (codes "remote_leader") raw);
  tag = int_in (text_of (codes "tag") raw);
}

-- the communicator that a call of MPI_Intercomm_merge gives
abbrev pub merged_of : TextCall → Option (List ℕ)
merged_of raw = or_text (text_of (codes "newintracomm") raw) (or_text (text_of (codes "newintercomm") raw) (text_of (codes "newcomm") raw))

-- ---- windows and files

-- the window or the file that a call ends
abbrev pub object_text : Object → TextCall → Option (List ℕ)
object_text objects.Communicator raw = None
object_text objects.Window raw = text_of (codes "win") raw
object_text objects.File raw = or_text (text_of (codes "fh") raw) (text_of (codes "file") raw)

-- the window or the file that a call gives
abbrev pub new_object_text : Object → TextCall → Option (List ℕ)
new_object_text objects.Communicator raw = None
new_object_text objects.Window raw = or_text (text_of (codes "win") raw) (text_of (codes "newwin") raw)
new_object_text objects.File raw = or_text (text_of (codes "fh") raw) (text_of (codes "file") raw)

-- its number, where it isn't null and can be read
abbrev pub object_in : Object → TextCall → Option ℕ
object_in object raw = option_and_then (object_of object) (new_object_text object raw)

-- the action makes a communicator as the call's parameters say
abbrev pub IsMake : Maker → TextCall → Action → Type 0
IsMake maker raw (actions.Make parent making given) = (parent ≡ comm_in (parent_of maker raw)) × IsMaking maker raw making × (given ≡ given_in (made_of maker raw))
IsMake maker raw _ = ⊥

-- the action makes a group as the call's parameters say
abbrev pub IsGroup : Grouper → TextCall → Action → Type 0
IsGroup grouper raw (actions.Group call given) = IsGroupCall grouper raw call × (given ≡ grouped_in grouper raw)
IsGroup grouper raw _ = ⊥

-- what a call of such a function says
abbrev pub IsAction : Function → TextCall → Action → Type 0
IsAction (functions.Make maker) raw action = IsMake maker raw action
IsAction functions.Rank raw action = action ≡ actions.CommRank (comm_in (text_of (codes "comm") raw)) (natural_in (text_of (codes "rank") raw))
IsAction functions.Free raw action = action ≡ actions.Free (comm_in (text_of (codes "comm") raw))
IsAction (functions.Group grouper) raw action = IsGroup grouper raw action
IsAction functions.Join raw action = action ≡ actions.Join (comm_in (text_of (codes "local_comm") raw)) (leaders_in raw) (given_in (text_of (codes "newintercomm") raw))
IsAction functions.Merge raw action = action ≡ actions.Merge (comm_in (text_of (codes "intercomm") raw)) (flag_in (text_of (codes "high") raw)) (given_in (merged_of raw))
IsAction (functions.Give maker) raw action = action ≡ actions.GivesComm maker (comm_in (called_on maker raw)) (given_in (other_of maker raw))
IsAction (functions.MakeObject maker) raw action = action ≡ actions.MakeObject maker (comm_in (text_of (codes "comm") raw)) (object_in (object_made maker) raw)
IsAction (functions.EndObject object) raw action = action ≡ actions.EndObject object (natural_in (object_text object raw))
