-- Offers as the program has them, by what is derived so far, and what it makes of intercommunicators.
use Rattle.std.specs.Prelude.{◌≡◌, ℕ, ℤ, All, Bool, false, IfSome, List, [], ◌∷◌, Option, Some, Vec, length}
use Rattle.std.specs.List.{slice_get}
use Rattle.std.specs.Option.{option_and_then}
use Rattle.std.specs.declared.alloc.Global.{Global}
use Rattle.comm_makings.specs.Derives.{members_at, ranks_in}
use Rattle.comm_makings.specs.Here.{meant_at}
use Rattle.comm_makings.specs.Intercomms.{SaysLeader, leaders_at, whole}
use Rattle.comm_makings.specs.Made.{IsMakingOrder}
use Rattle.comm_makings.specs.Makes.{AreGiven}
use Rattle.comm_makings.specs.Selection.{Selection}
use Rattle.comm_makings.specs.State.{IsDerivedComm, IsDerivedInter, IsMadeOf, parts_in, standing_at}
use Rattle.comm_makings.specs.declared.calls.Leaders.{Leaders}
use Rattle.comm_makings.specs.declared.calls.RankCalls.{RankCalls}
use Rattle.comm_makings.specs.declared.handle.Meant.{Meant}
use Rattle.comm_makings.specs.declared.here.Here.{Here}
use Rattle.comm_makings.specs.declared.intercomms.Joined.{Joined}
use Rattle.comm_makings.specs.declared.intercomms.Joined.TheVariants as joins
use Rattle.comm_makings.specs.declared.intercomms.OfInter.{OfInter}
use Rattle.comm_makings.specs.declared.intercomms.OfInter.TheVariants as made_of
use Rattle.comm_makings.specs.declared.intercomms.Offer.{Offer}
use Rattle.comm_makings.specs.declared.intercomms.Offered.{Offered}
use Rattle.comm_makings.specs.declared.intercomms.Offered.TheVariants as offered
use Rattle.comm_makings.specs.declared.intercomms.Place.{Place}
use Rattle.comm_makings.specs.declared.intercomms.Place.TheVariants as places
use Rattle.comm_makings.specs.declared.parts.Outcome.{Outcome}
use Rattle.comm_makings.specs.declared.state.HandleState.{HandleState}
use Rattle.comm_makings.specs.declared.state.HandleState.TheVariants as standings
use Rattle.comm_makings.specs.declared.state.Made.{Made}
use Rattle.comm_makings.specs.declared.state.Member.{Member}
use Rattle.comm_makings.specs.declared.view.RankView.{RankView}

-- a handle that stands so is that of the derived communicator at this place
abbrev pub IsPlace : Option HandleState → Place → Type 0
IsPlace standing (places.At place) = standing ≡ Some (standings.Derived place)
IsPlace standing places.Left = Unit {0}
IsPlace standing places.Waits = Unit {0}
IsPlace standing places.Unknown = Unit {0}

-- the rank in the run of a rank of the derived communicator at a place
abbrev pub rank_at : List Made → ℕ → ℕ → Option ℕ
rank_at comms place rank = option_and_then (λ c. slice_get c.ranks.items rank) (slice_get comms place)

-- A call that says this of the leaders names the other one, a rank of the run, over the derived communicator at a place,
-- with this tag.
pub record Asks (comms : List Made) (bridge : ℕ) (leaders : Leaders) (asked : ℕ × ℤ) : Type 0 where
  pub remote : ℕ
  pub remote_said : leaders.other ≡ Some remote
  pub reaches : rank_at comms bridge remote ≡ Some asked.0
  pub tagged : leaders.tag ≡ Some asked.1

-- The offer is that of a leader's call, by the derived communicators that the call names.
pub record IsOffer (ranks : List RankCalls) (views : List RankView) (stand : List (Vec HandleState Global)) (comms : List Made) (offer : Offer) : Type 0 where
  pub leaders : Leaders
  pub said : leaders_at ranks offer.rank offer.at ≡ Some leaders
  pub meant : Meant
  pub means : meant_at views offer.rank offer.at ≡ Some meant
  pub local_is : option_and_then (standing_at stand offer.rank) meant.comm ≡ Some (standings.Derived offer.local)
  pub own : ℕ
  pub own_said : leaders.own ≡ Some own
  pub leads : rank_at comms offer.local own ≡ Some offer.rank
  pub bridge_is : option_and_then (standing_at stand offer.rank) meant.bridge ≡ Some (standings.Derived offer.bridge)
  pub remote : ℕ
  pub remote_said : leaders.other ≡ Some remote
  pub reaches : rank_at comms offer.bridge remote ≡ Some offer.other
  pub tagged : leaders.tag ≡ Some offer.tag

-- what a call of a rank is found to be
abbrev pub IsOffered : List RankCalls → List RankView → List (Vec HandleState Global) → List Made → ℕ → ℕ → Offered → Type 0
IsOffered ranks views stand comms rank at (offered.Offers offer) = IsOffer ranks views stand comms offer
IsOffered ranks views stand comms rank at offered.Nothing = Unit {0}
IsOffered ranks views stand comms rank at offered.Waits = Unit {0}
IsOffered ranks views stand comms rank at offered.Unknown = Unit {0}

-- All calls of a group name the leader of it that an offer names.
abbrev pub SayAlike : List RankCalls → Offer → List (Option Here) → Type 0
SayAlike ranks offer all = IfSome (option_and_then (λ l. l.own) (leaders_at ranks offer.rank offer.at)) (λ l. All (SaysLeader ranks l) all)

-- Two offers answer each other.
pub record Answer (one other : Offer) : Type 0 where
  pub there : one.other ≡ other.rank
  pub back : other.other ≡ one.rank
  pub bridge : one.bridge ≡ other.bridge
  pub tag : one.tag ≡ other.tag

-- The intercommunicator of these members, as their calls give it, of which so many are the second group.
pub record IsInterOf (members : List Member) (all : List (Option Here)) (remote_size : ℕ) (later : Bool) (inter : Made) : Type 0 where
  pub chosen : inter.members.items ≡ members_at members all (whole (length members)).places
  pub same_ranks : inter.ranks.items ≡ ranks_in inter.members.items
  pub order : IsMakingOrder (whole (length members)).places all inter.order
  pub remote : inter.remote_size ≡ remote_size
  pub given : AreGiven later all (whole (length members) ∷ [])

-- what two offers make, where they make something
abbrev pub IfJoined : (Made → Type 0) → Joined → Type 0
IfJoined P (joins.Inter inter) = P inter
IfJoined P (joins.Left all) = Unit {0}

-- what is made of an intercommunicator derives
abbrev pub MakesOfInter : List RankCalls → List RankView → OfInter → Type 0
MakesOfInter ranks views (made_of.Inter inter) = IsDerivedInter ranks views inter
MakesOfInter ranks views (made_of.Comm comm) = IsDerivedComm ranks views comm
MakesOfInter ranks views made_of.Untold = Unit {0}
MakesOfInter ranks views made_of.Unsound = Unit {0}

-- a communicator is made, if anything is
abbrev pub IfMerged : (Made → Type 0) → OfInter → Type 0
IfMerged P (made_of.Inter inter) = ⊥
IfMerged P (made_of.Comm comm) = P comm
IfMerged P made_of.Untold = Unit {0}
IfMerged P made_of.Unsound = Unit {0}

-- The communicator of the first part of an outcome, which the calls give.
pub record IsMadeByMerge (members : List Member) (all : List (Option Here)) (outcome : Outcome) (comm : Made) : Type 0 where
  pub parts : List Selection
  pub part : Selection
  pub made : parts_in outcome ≡ Some parts
  pub first : slice_get parts 0 ≡ Some part
  pub given : AreGiven false all parts
  pub is_made : IsMadeOf members all part comm
