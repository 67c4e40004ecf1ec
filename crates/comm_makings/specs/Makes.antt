-- What the calls of a communicator's members make together (MPI 4.0, chapters 7 and 8).
use Rattle.std.specs.Prelude.{◌≡◌, ◌<◌, ◌≤◌, ◌⊎◌, ◌||◌, ℕ, ℤ, pos, Bool, true, false, not, List, Option, Some, None, All, is_some, length, map}
use Rattle.std.specs.List.{filter_map, list_any, range_with_len, slice_get}
use Rattle.comm_groups.specs.Grids.{AreParts, kept, size_within}
use Rattle.comm_groups.specs.Groups.{has}
use Rattle.comm_groups.specs.Orders.{IsOrderOf, are_each_once}
use Rattle.comm_groups.specs.Splits.{Group, IsSplit}
use Rattle.comm_makings.specs.Each.{list_in}
use Rattle.comm_makings.specs.Here.{HasFunction, first_of, gives_later, gives_unknown, making_at}
use Rattle.comm_makings.specs.Parts.{one_of, part_with}
use Rattle.comm_makings.specs.Reordered.{AreReturned, given_places, told_ranks}
use Rattle.comm_makings.specs.Selection.{Selection}
use Rattle.comm_makings.specs.Splits.{all_here, colored, some_unknown}
use Rattle.comm_makings.specs.declared.answer.MadeBy.{MadeBy}
use Rattle.comm_makings.specs.declared.answer.MadeBy.TheVariants as functions
use Rattle.comm_makings.specs.declared.calls.Making.{Making}
use Rattle.comm_makings.specs.declared.calls.Making.TheVariants as makings
use Rattle.comm_makings.specs.declared.calls.RankCalls.{RankCalls}
use Rattle.comm_makings.specs.declared.handle.Gives.{Gives}
use Rattle.comm_makings.specs.declared.handle.Gives.TheVariants as gives
use Rattle.comm_makings.specs.declared.here.Here.{Here}
use Rattle.comm_makings.specs.declared.view.RankView.{RankView}

-- the sizes of the dimensions that a call says
abbrev pub dims_in : Making → Option (List ℕ)
dims_in (makings.CartCreate dims reorder) = list_in dims
dims_in _ = None

-- which dimensions remain, as a call says
abbrev pub remain_in : Making → Option (List Bool)
remain_in (makings.CartSub remain) = list_in remain
remain_in _ = None

-- whether the ranks may be ordered anew, as a call says
abbrev pub reorder_in : Making → Option Bool
reorder_in (makings.CartCreate dims reorder) = reorder
reorder_in (makings.GraphCreate nodes reorder) = reorder
reorder_in (makings.DistGraphCreate reorder) = reorder
reorder_in (makings.DistGraphCreateAdjacent reorder) = reorder
reorder_in _ = None

-- the number of nodes that a call says
abbrev pub nodes_in : Making → Option ℤ
nodes_in (makings.GraphCreate nodes reorder) = nodes
nodes_in _ = None

-- what a call says, where it makes communicators
abbrev pub said_by : {X : Type 0} → (Making → Option X) → Option Making → Option X
said_by said None = None
said_by said (Some making) = said making

-- A call that is there says this.
abbrev pub Says : {X : Type 0} → List RankCalls → (Making → Option X) → X → Option Here → Type 0
Says ranks said x None = Unit {0}
Says ranks said x (Some here) = said_by said (making_at ranks here.rank here.at) ≡ Some x

-- All calls that are there say the same.
abbrev pub AllSay : {X : Type 0} → List RankCalls → (Making → Option X) → X → List (Option Here) → Type 0
AllSay ranks said x all = All (Says ranks said x) all

-- nothing is said, or this
abbrev pub IsOrNone : {X : Type 0} → X → Option X → Type 0
IsOrNone x None = Unit {0}
IsOrNone x (Some said) = said ≡ x

-- A call that is there says this or nothing.
abbrev pub MaySay : {X : Type 0} → List RankCalls → (Making → Option X) → X → Option Here → Type 0
MaySay ranks said x None = Unit {0}
MaySay ranks said x (Some here) = IsOrNone x (said_by said (making_at ranks here.rank here.at))

-- A call that is there says nothing.
abbrev pub IsSilent : {X : Type 0} → List RankCalls → (Making → Option X) → Option Here → Type 0
IsSilent ranks said None = Unit {0}
IsSilent ranks said (Some here) = said_by said (making_at ranks here.rank here.at) ≡ None

-- the first calls say nothing
pub record AreSilentTo {X : Type 0} (ranks : List RankCalls) (said : Making → Option X) (all : List (Option Here)) (count : ℕ) : Type 0 where
  pub each : (place : ℕ) (here : Option Here) → slice_get all place ≡ Some here → place < count → IsSilent ranks said here

-- No call says anything.
pub record AreSilent {X : Type 0} (ranks : List RankCalls) (said : Making → Option X) (all : List (Option Here)) : Type 0 where
  pub each : (place : ℕ) (here : Option Here) → slice_get all place ≡ Some here → IsSilent ranks said here

-- Those of the calls that say something say the same, which fits.
pub record AreAlike {X : Type 0} (ranks : List RankCalls) (said : Making → Option X) (fits : X → Bool) (all : List (Option Here)) : Type 0 where
  pub x : X
  pub same : All (MaySay ranks said x) all
  pub fit : fits x ≡ true

-- No call says anything, or those that do say the same, which fits.
abbrev pub AreSaidAlike : {X : Type 0} → List RankCalls → (Making → Option X) → (X → Bool) → List (Option Here) → Type 0
AreSaidAlike ranks said fits all = AreSilent ranks said all ⊎ AreAlike ranks said fits all

-- A split needs the call of each member.
pub record IsSplitMade (ranks : List RankCalls) (all : List (Option Here)) (parts : List Selection) : Type 0 where
  pub readable : some_unknown ranks all ≡ false
  pub complete : all_here all ≡ true
  pub groups : List Group
  pub split : IsSplit (colored ranks 0 all) groups
  pub made : parts ≡ map (part_with None) groups

-- Those that get the communicator, in the order of the ranks that MPI_Comm_rank first tells them on it.
pub record IsReordered (views : List RankView) (all : List (Option Here)) (dims : Option (List ℕ)) (parts : List Selection) : Type 0 where
  pub complete : AreReturned all
  pub told : List ℕ
  pub all_told : told_ranks views all ≡ Some told
  pub each_once : are_each_once told ≡ true
  pub order : List ℕ
  pub by_rank : IsOrderOf told order
  pub made : parts ≡ one_of (filter_map (slice_get (given_places 0 all)) order) dims

-- A communicator of so many members: the first of the parent, or where they may be ordered anew those that get it.
abbrev pub IsOfMany : List RankView → List (Option Here) → Bool → ℕ → Option (List ℕ) → List Selection → Type 0
IsOfMany views all false count dims parts = parts ≡ one_of (range_with_len 0 count) dims
IsOfMany views all true count dims parts = (length (given_places 0 all) ≡ count) × IsReordered views all dims parts

-- the same, where the number may be unknown
abbrev pub IsTopology : List RankCalls → List RankView → List (Option Here) → Option ℕ → Option (List ℕ) → List Selection → Type 0
IsTopology ranks views all None dims parts = AllSay ranks reorder_in true all × IsReordered views all dims parts
IsTopology ranks views all (Some count) dims parts = (reorder : Bool) × AllSay ranks reorder_in reorder all × IsOfMany views all reorder count dims parts

-- A grid, of as many members as its dimensions say. Where they may be ordered anew these may be unknown.
pub record IsKnownGrid (ranks : List RankCalls) (views : List RankView) (all : List (Option Here)) (parts : List Selection) : Type 0 where
  pub dims : List ℕ
  pub same_dims : AllSay ranks dims_in dims all
  pub size : ℕ
  pub fits : size_within (length all) dims ≡ Some size
  pub reorder : Bool
  pub same_reorder : AllSay ranks reorder_in reorder all
  pub made : IsOfMany views all reorder size (Some dims) parts

-- these dimensions are those of a grid of some of so many members
abbrev pub dims_fit : ℕ → List ℕ → Bool
dims_fit members dims = is_some (size_within members dims)

-- A grid whose members may be ordered anew, as all calls say. Those that say dimensions say the same, but not all do,
-- or the communicator would have them.
pub record IsUnknownGrid (ranks : List RankCalls) (views : List RankView) (all : List (Option Here)) (parts : List Selection) : Type 0 where
  pub alike : AreSaidAlike ranks dims_in (dims_fit (length all)) all
  pub reorders : AllSay ranks reorder_in true all
  pub made : IsReordered views all None parts

-- A graph, whatever number of nodes its calls say: all of them say that its members may be ordered anew.
pub record IsUnknownGraph (ranks : List RankCalls) (views : List RankView) (all : List (Option Here)) (parts : List Selection) : Type 0 where
  pub reorders : AllSay ranks reorder_in true all
  pub made : IsReordered views all None parts

-- A graph, of as many members as it has nodes.
pub record IsKnownGraph (ranks : List RankCalls) (views : List RankView) (all : List (Option Here)) (parts : List Selection) : Type 0 where
  pub nodes : ℕ
  pub same_nodes : AllSay ranks nodes_in (pos nodes) all
  pub fits : nodes ≤ length all
  pub reorder : Bool
  pub same_reorder : AllSay ranks reorder_in reorder all
  pub made : IsOfMany views all reorder nodes None parts

-- A grid, of which the dimensions are known or not.
abbrev pub IsGrid : List RankCalls → List RankView → List (Option Here) → List Selection → Type 0
IsGrid ranks views all parts = IsKnownGrid ranks views all parts ⊎ IsUnknownGrid ranks views all parts

-- A graph, of which the number of nodes is known or not.
abbrev pub IsGraph : List RankCalls → List RankView → List (Option Here) → List Selection → Type 0
IsGraph ranks views all parts = IsKnownGraph ranks views all parts ⊎ IsUnknownGraph ranks views all parts

-- A distributed graph: all members of the parent, or where they may be ordered anew those that get it.
abbrev pub IsDistGraph : List RankView → List (Option Here) → Bool → List Selection → Type 0
IsDistGraph views all false parts = parts ≡ one_of (range_with_len 0 (length all)) None
IsDistGraph views all true parts = IsReordered views all None parts

-- A distributed graph, of which all calls say the same of the order.
pub record IsDistGraphMade (ranks : List RankCalls) (views : List RankView) (all : List (Option Here)) (parts : List Selection) : Type 0 where
  pub reorder : Bool
  pub same_reorder : AllSay ranks reorder_in reorder all
  pub made : IsDistGraph views all reorder parts

-- The parts of a grid: the members that agree in the coordinates of the dimensions that do not remain (MPI 4.0, 8.5).
pub record IsPartOfGrid (ranks : List RankCalls) (dims : Option (List ℕ)) (all : List (Option Here)) (parts : List Selection) : Type 0 where
  pub sizes : List ℕ
  pub known : dims ≡ Some sizes
  pub size : ℕ
  pub fits : size_within (length all) sizes ≡ Some size
  pub remain : List Bool
  pub same_remain : AllSay ranks remain_in remain all
  pub same_length : length remain ≡ length sizes
  pub groups : List Group
  pub agree : AreParts sizes remain groups
  pub made : parts ≡ map (part_with (Some (kept remain sizes))) groups

-- What a function makes of a parent of these dimensions. MPI_Comm_create is another matter, since it takes groups.
abbrev pub IsMadeBy : List RankCalls → List RankView → Option (List ℕ) → List (Option Here) → MadeBy → List Selection → Type 0
IsMadeBy ranks views dims all functions.Dup parts = parts ≡ one_of (range_with_len 0 (length all)) dims
IsMadeBy ranks views dims all functions.DupWithInfo parts = parts ≡ one_of (range_with_len 0 (length all)) dims
IsMadeBy ranks views dims all functions.Idup parts = parts ≡ one_of (range_with_len 0 (length all)) dims
IsMadeBy ranks views dims all functions.IdupWithInfo parts = parts ≡ one_of (range_with_len 0 (length all)) dims
IsMadeBy ranks views dims all functions.Split parts = IsSplitMade ranks all parts
IsMadeBy ranks views dims all functions.CartCreate parts = IsGrid ranks views all parts
IsMadeBy ranks views dims all functions.CartSub parts = IsPartOfGrid ranks dims all parts
IsMadeBy ranks views dims all functions.GraphCreate parts = IsGraph ranks views all parts
IsMadeBy ranks views dims all functions.DistGraphCreate parts = IsDistGraphMade ranks views all parts
IsMadeBy ranks views dims all functions.DistGraphCreateAdjacent parts = IsDistGraphMade ranks views all parts
IsMadeBy ranks views dims all functions.Create parts = ⊥
IsMadeBy ranks views dims all functions.CreateGroup parts = ⊥
IsMadeBy ranks views dims all functions.IntercommCreate parts = ⊥
IsMadeBy ranks views dims all functions.IntercommMerge parts = ⊥
IsMadeBy ranks views dims all (functions.Other maker) parts = ⊥

-- The calls are one making of this function: those that are there call it, and what they give can be read.
pub record IsOneMaking (function : MadeBy) (all : List (Option Here)) : Type 0 where
  pub first : Here
  pub is_first : first_of all ≡ Some first
  pub called : first.function ≡ function
  pub same : All (HasFunction function) all
  pub readable : gives_later function ≡ false → list_any gives_unknown all ≡ false

-- a member at this place is in one of the communicators that are made
abbrev pub is_covered : List Selection → ℕ → Bool
is_covered parts place = list_any (λ part. has part.places place) parts

-- A call that returned gives a communicator where the member is in one, and none where it isn't.
abbrev pub gives_so : Bool → Bool → Gives → Bool
gives_so later covered gives.Nothing = true
gives_so later covered (gives.Handle handle) = covered
gives_so later covered gives.Null = not covered || later
gives_so later covered gives.Unknown = later
gives_so later covered (gives.Taken handle) = later

-- So does the call of a member, where it is there.
abbrev pub is_given_so : Bool → Bool → Option Here → Bool
is_given_so later covered None = true
is_given_so later covered (Some here) = gives_so later covered here.gives

-- The calls give so, where this says of each place whether it is in a communicator.
abbrev pub AreGivenBy : Bool → List (Option Here) → List Bool → Type 0
AreGivenBy later all covered = (k : ℕ) (here : Option Here) → slice_get all k ≡ Some here
    → (b : Bool) × (slice_get covered k ≡ Some b) × (is_given_so later b here ≡ true)

-- The calls give what is made.
abbrev pub AreGiven : Bool → List (Option Here) → List Selection → Type 0
AreGiven later all parts = (place : ℕ) (here : Option Here) → slice_get all place ≡ Some here → is_given_so later (is_covered parts place) here ≡ true
