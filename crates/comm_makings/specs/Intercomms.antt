-- Intercommunicators (MPI 4.0, 7.6): how the calls of two groups join them, and what is made of the two.
use Rattle.std.specs.Prelude.{◌≡◌, ◌-◌, ◌==◌, ◌++◌, ℕ, ℤ, Bool, true, false, List, [], ◌∷◌, Option, Some, None, All, cond, drop, is_some, length, map, take}
use Rattle.std.specs.List.{range_with_len, slice_get}
use Rattle.std.specs.Option.{option_and_then}
use Rattle.comm_groups.specs.Groups.{intersection_of}
use Rattle.comm_makings.specs.Here.{call_at, first_of, meant_at}
use Rattle.comm_makings.specs.Makes.{AreGiven, IsOneMaking, IsReordered}
use Rattle.comm_makings.specs.Parts.{one_of}
use Rattle.comm_makings.specs.Selection.{Selection}
use Rattle.comm_makings.specs.declared.answer.MadeBy.{MadeBy}
use Rattle.comm_makings.specs.declared.answer.MadeBy.TheVariants as functions
use Rattle.comm_makings.specs.declared.calls.Action.{Action}
use Rattle.comm_makings.specs.declared.calls.Action.TheVariants as actions
use Rattle.comm_makings.specs.declared.calls.CommCall.{CommCall}
use Rattle.comm_makings.specs.declared.calls.Leaders.{Leaders}
use Rattle.comm_makings.specs.declared.calls.RankCalls.{RankCalls}
use Rattle.comm_makings.specs.declared.handle.Meant.{Meant}
use Rattle.comm_makings.specs.declared.here.Here.{Here}
use Rattle.comm_makings.specs.declared.state.Member.{Member}
use Rattle.comm_makings.specs.declared.view.RankView.{RankView}

-- ---- what calls say

-- what an action says of the leaders, where it joins two groups
abbrev pub leaders_of : Action → Option Leaders
leaders_of (actions.Join local leaders given) = Some leaders
leaders_of _ = None

-- the same of a call of a rank
abbrev pub leaders_at : List RankCalls → ℕ → ℕ → Option Leaders
leaders_at ranks rank at = option_and_then (λ c. leaders_of c.action) (call_at ranks rank at)

-- whether an action that merges two groups puts the caller's behind the other
abbrev pub high_of : Action → Option Bool
high_of (actions.Merge comm high given) = high
high_of _ = None

-- the same of a call of a rank
abbrev pub high_at : List RankCalls → ℕ → ℕ → Option Bool
high_at ranks rank at = option_and_then (λ c. high_of c.action) (call_at ranks rank at)

-- the function of a call that joins or merges two groups
abbrev pub inter_function : Action → Option MadeBy
inter_function (actions.Join local leaders given) = Some functions.IntercommCreate
inter_function (actions.Merge comm high given) = Some functions.IntercommMerge
inter_function _ = None

-- such a call of a rank at this place of its list, by its function and what its numbers mean
abbrev pub inter_here_of : ℕ → ℕ → CommCall → MadeBy → Meant → Here
inter_here_of rank at call function meant = record { rank = rank; at = at; call = call.call; function = function; gives = meant.gives; group = meant.group }

-- the same, where the call is such
abbrev pub inter_here_by : List RankView → ℕ → ℕ → CommCall → Option Here
inter_here_by views rank at call = option_and_then (λ function. option_and_then (λ meant. Some (inter_here_of rank at call function meant)) (meant_at views rank at)) (inter_function call.action)

-- the call of a rank that joins or merges two groups, at this place of its list
abbrev pub inter_here_at : List RankCalls → List RankView → ℕ → ℕ → Option Here
inter_here_at ranks views rank at = option_and_then (inter_here_by views rank at) (call_at ranks rank at)

-- the handle of the communicator that a call of a rank names, and that of the one that has both leaders
abbrev pub handle_named : List RankView → ℕ → ℕ → Option ℕ
handle_named views rank at = option_and_then (λ m. m.comm) (meant_at views rank at)

abbrev pub bridge_named : List RankView → ℕ → ℕ → Option ℕ
bridge_named views rank at = option_and_then (λ m. m.bridge) (meant_at views rank at)

-- the call of a member at this place of its list, where it joins or merges groups of the member's handle
abbrev pub own_here : List RankCalls → List RankView → Member → ℕ → Option Here
own_here ranks views member at = option_and_then (λ handle. option_and_then (λ named. cond (named == handle) (inter_here_at ranks views member.rank at) None) (handle_named views member.rank at)) member.handle

-- It is such a call of the member.
abbrev pub IsOwnCall : List RankCalls → List RankView → Member → Here → Type 0
IsOwnCall ranks views member here = (at : ℕ) × (own_here ranks views member at ≡ Some here)

-- The call at a member's place, where one is there, is one of that member.
pub record AreOwnCalls (ranks : List RankCalls) (views : List RankView) (members : List Member) (all : List (Option Here)) : Type 0 where
  pub each : (place : ℕ) (here : Here) → slice_get all place ≡ Some (Some here)
      → (member : Member) × (slice_get members place ≡ Some member) × IsOwnCall ranks views member here

-- ---- two groups

-- how many members the first of the two groups has
abbrev pub first_size : List Member → ℕ → ℕ
first_size members remote_size = length members - remote_size

-- the second group, or the first one
abbrev pub side : {X : Type 0} → Bool → ℕ → List X → List X
side second size members = cond second (drop size members) (take size members)

-- all members, in their order
abbrev pub whole : ℕ → Selection
whole count = record { places = range_with_len 0 count; dims = None }

-- The rank is a member, by this handle.
abbrev pub IsMemberBy : List Member → ℕ → ℕ → Type 0
IsMemberBy members rank handle = (place : ℕ) × (slice_get members place ≡ Some (record { rank = rank; handle = Some handle }))

-- the rank in the run of a rank of these members
abbrev pub rank_of : List Member → ℕ → Option ℕ
rank_of members rank = slice_get (map (λ (m : Member). m.rank) members) rank

-- ---- joins

-- the call names this leader of its own group, where it is there
abbrev pub SaysLeader : List RankCalls → ℕ → Option Here → Type 0
SaysLeader ranks leader None = Unit {0}
SaysLeader ranks leader (Some here) = option_and_then (λ l. l.own) (leaders_at ranks here.rank here.at) ≡ Some leader

-- A call by which a rank, the leader of its own group, names the leader of another over a communicator that has both,
-- with a tag (MPI 4.0, 7.6.2).
pub record Offers (ranks : List RankCalls) (views : List RankView) (group bridge : List Member) (rank other : ℕ) (tag : ℤ) : Type 0 where
  pub at : ℕ
  pub leaders : Leaders
  pub said : leaders_at ranks rank at ≡ Some leaders
  pub handle : ℕ
  pub named : handle_named views rank at ≡ Some handle
  pub is_member : IsMemberBy group rank handle
  pub own : ℕ
  pub own_said : leaders.own ≡ Some own
  pub leads : rank_of group own ≡ Some rank
  pub bridge_handle : ℕ
  pub bridge_is : bridge_named views rank at ≡ Some bridge_handle
  pub bridge_member : IsMemberBy bridge rank bridge_handle
  pub remote : ℕ
  pub remote_said : leaders.other ≡ Some remote
  pub reaches : rank_of bridge remote ≡ Some other
  pub tagged : leaders.tag ≡ Some tag

-- Calls that join the groups of two communicators: their leaders name each other over one communicator, with one tag;
-- all calls of each group name one leader of its own; no rank is in both; and each call that returned gives the
-- intercommunicator.
pub record IsJoining (ranks : List RankCalls) (views : List RankView) (first second bridge : List Member) (all : List (Option Here)) : Type 0 where
  pub of_first : List (Option Here)
  pub of_second : List (Option Here)
  pub both : all ≡ of_first ++ of_second
  pub first_each : length of_first ≡ length first
  pub first_calls : AreOwnCalls ranks views first of_first
  pub second_calls : AreOwnCalls ranks views second of_second
  pub first_leader : ℕ
  pub second_leader : ℕ
  pub first_alike : All (SaysLeader ranks first_leader) of_first
  pub second_alike : All (SaysLeader ranks second_leader) of_second
  pub apart : intersection_of (map (λ (m : Member). m.rank) first) (map (λ (m : Member). m.rank) second) ≡ []
  pub one : IsOneMaking functions.IntercommCreate all
  pub given : AreGiven false all (whole (length (first ++ second)) ∷ [])
  pub leader : ℕ
  pub other : ℕ
  pub tag : ℤ
  pub offer : Offers ranks views first bridge leader other tag
  pub answer : Offers ranks views second bridge other leader tag

-- ---- duplicates

-- the function makes a duplicate
abbrev pub is_copy : MadeBy → Bool
is_copy functions.Dup = true
is_copy functions.DupWithInfo = true
is_copy functions.Idup = true
is_copy functions.IdupWithInfo = true
is_copy _ = false

-- ---- merges

-- the call says this of its group, where it is there
abbrev pub SaysHigh : List RankCalls → Bool → Option Here → Type 0
SaysHigh ranks high None = Unit {0}
SaysHigh ranks high (Some here) = high_at ranks here.rank here.at ≡ Some high

-- The merged members: the group whose calls say `low` comes first. Where both say the same the implementation chose the
-- order, which MPI_Comm_rank tells (MPI 4.0, 7.6.2).
abbrev pub IsMergedOf : List RankView → List (Option Here) → ℕ → Bool → Bool → List Selection → Type 0
IsMergedOf views all size false true parts = parts ≡ one_of (range_with_len 0 (length all)) None
IsMergedOf views all size true false parts = parts ≡ one_of (range_with_len size (length all - size) ++ range_with_len 0 size) None
IsMergedOf views all size false false parts = IsReordered views all None parts
IsMergedOf views all size true true parts = IsReordered views all None parts

-- Calls that merge the two groups, the first of which has so many members: of each group some are there, all of which
-- say the same.
pub record IsMerge (ranks : List RankCalls) (views : List RankView) (members : List Member) (size : ℕ) (all : List (Option Here)) (part : Selection) : Type 0 where
  pub calls : AreOwnCalls ranks views members all
  pub one : IsOneMaking functions.IntercommMerge all
  pub first_there : is_some (first_of (take size all)) ≡ true
  pub second_there : is_some (first_of (drop size all)) ≡ true
  pub first_high : Bool
  pub second_high : Bool
  pub first_alike : All (SaysHigh ranks first_high) (take size all)
  pub second_alike : All (SaysHigh ranks second_high) (drop size all)
  pub parts : List Selection
  pub made : IsMergedOf views all size first_high second_high parts
  pub is_part : slice_get parts 0 ≡ Some part
  pub given : AreGiven false all parts
