-- The calls of MPI_Comm_create_group on one parent, and the communicators that they make.
use Rattle.std.specs.Prelude.{◌≡◌, ◌<◌, ◌++◌, ℕ, ℤ, false, List, [], ◌∷◌, Option, Some, None, Vec, length, map, take}
use Rattle.std.specs.List.{list_any, slice_get}
use Rattle.std.specs.declared.alloc.Global.{Global}
use Rattle.comm_makings.specs.Derives.{ArePlaces, IsGroupCall, by_group_at, tag_in}
use Rattle.comm_makings.specs.GroupKeys.{GroupKey, Times, key_with}
use Rattle.comm_makings.specs.Here.{gives_unknown, here_at, making_at}
use Rattle.comm_makings.specs.Makes.{AreGiven, said_by}
use Rattle.comm_makings.specs.Offers.{group_of}
use Rattle.comm_makings.specs.Selection.{Selection}
use Rattle.comm_makings.specs.State.{IsMadeOf}
use Rattle.comm_makings.specs.declared.by_groups.Named.{Named}
use Rattle.comm_makings.specs.declared.by_groups.Offer.{Offer}
use Rattle.comm_makings.specs.declared.by_groups.Offered.{Offered}
use Rattle.comm_makings.specs.declared.by_groups.Offered.TheVariants as offers
use Rattle.comm_makings.specs.declared.by_groups.Turn.{Turn}
use Rattle.comm_makings.specs.declared.by_groups.Turn.TheVariants as turns
use Rattle.comm_makings.specs.declared.calls.RankCalls.{RankCalls}
use Rattle.comm_makings.specs.declared.group_value.GroupValue.{GroupValue}
use Rattle.comm_makings.specs.declared.here.Here.{Here}
use Rattle.comm_makings.specs.declared.run.Run.{Run}
use Rattle.comm_makings.specs.declared.state.Made.{Made}
use Rattle.comm_makings.specs.declared.state.Member.{Member}
use Rattle.comm_makings.specs.declared.view.RankView.{RankView}

-- what a call names
abbrev pub key_of : Offer → GroupKey
key_of offer = key_with offer.ranks.now offer.tag

-- The call of a rank on a handle that has so many before it, noted with its tag and the ranks of its group.
pub record IsNoted (ranks : List RankCalls) (views : List RankView) (values : List (Vec GroupValue Global)) (comms : List Made) (rank handle before : ℕ) (offer : Offer) : Type 0 where
  pub call : IsGroupCall ranks views rank handle before offer.tag offer.here
  pub group : group_of values comms offer.here ≡ Some offer.ranks.now

-- The first calls of a rank on a handle are noted.
pub record AreNoted (ranks : List RankCalls) (views : List RankView) (values : List (Vec GroupValue Global)) (comms : List Made) (rank handle : ℕ) (calls : List Offer) : Type 0 where
  pub each : (k : ℕ) (offer : Offer) → slice_get calls k ≡ Some offer → IsNoted ranks views values comms rank handle k offer

-- A call of a member, noted with its tag, the ranks of its group, and how many before it name the same.
pub record IsRightOffer (ranks : List RankCalls) (views : List RankView) (values : List (Vec GroupValue Global)) (comms : List Made) (members : List Member) (offer : Offer) : Type 0 where
  pub member : Member
  pub is_member : slice_get members offer.place ≡ Some member
  pub handle : ℕ
  pub named : member.handle ≡ Some handle
  pub before : List Offer
  pub noted_before : AreNoted ranks views values comms member.rank handle before
  pub noted : IsNoted ranks views values comms member.rank handle (length before) offer
  pub times : Times (key_of offer) (map key_of before) offer.turn

-- Each call is one of a member, noted so.
pub record AreRightOffers (ranks : List RankCalls) (views : List RankView) (values : List (Vec GroupValue Global)) (comms : List Made) (members : List Member) (calls : List Offer) : Type 0 where
  pub each : (k : ℕ) (offer : Offer) → slice_get calls k ≡ Some offer → IsRightOffer ranks views values comms members offer

-- The same, as far as a run knows their groups.
abbrev pub AreOffersIn : List RankCalls → List RankView → Run → List Member → List Offer → Type 0
AreOffersIn ranks views run members calls = AreRightOffers ranks views run.values.items run.comms.items members calls

-- Of each call is noted how many before it name the same.
pub record AreCounted (own : List Offer) : Type 0 where
  pub each : (k : ℕ) (offer : Offer) → slice_get own k ≡ Some offer → Times (key_of offer) (map key_of (take k own)) offer.turn

-- the call of a member at this place of the parent that has so many before it
pub record IsOwn (ranks : List RankCalls) (views : List RankView) (values : List (Vec GroupValue Global)) (comms : List Made) (member : Member) (place k : ℕ) (offer : Offer) : Type 0 where
  pub handle : ℕ
  pub named : member.handle ≡ Some handle
  pub noted : IsNoted ranks views values comms member.rank handle k offer
  pub placed : offer.place ≡ place

-- the first calls of the member
pub record AreOwn (ranks : List RankCalls) (views : List RankView) (values : List (Vec GroupValue Global)) (comms : List Made) (member : Member) (place : ℕ) (own : List Offer) : Type 0 where
  pub each : (k : ℕ) (offer : Offer) → slice_get own k ≡ Some offer → IsOwn ranks views values comms member place k offer
  pub counted : AreCounted own

-- The same, as far as a run knows their groups.
abbrev pub AreOwnIn : List RankCalls → List RankView → Run → Member → ℕ → List Offer → Type 0
AreOwnIn ranks views run member place own = AreOwn ranks views run.values.items run.comms.items member place own

-- A call of a rank names a group with a tag, which are known.
pub record IsNamed (ranks : List RankCalls) (views : List RankView) (values : List (Vec GroupValue Global)) (comms : List Made) (rank at : ℕ) (named : Named) : Type 0 where
  pub called : here_at ranks views rank at ≡ Some named.here
  pub tagged : said_by tag_in (making_at ranks rank at) ≡ Some named.tag
  pub group : group_of values comms named.here ≡ Some named.ranks.now

-- A call of a rank that counts as known has its own tag and the ranks of its group.
abbrev pub IsKnownOffer : List RankCalls → List RankView → List (Vec GroupValue Global) → List Made → ℕ → ℕ → Offered → Type 0
IsKnownOffer ranks views values comms rank at (offers.Known named) = IsNamed ranks views values comms rank at named
IsKnownOffer ranks views values comms rank at offers.Waits = Unit {0}
IsKnownOffer ranks views values comms rank at offers.Unknown = Unit {0}

-- The call is noted behind the others, with how many of these name the same.
pub record AddsCall (old new : List Offer) (named : Named) (place : ℕ) : Type 0 where
  pub offer : Offer
  pub more : new ≡ old ++ offer ∷ []
  pub same_ranks : offer.ranks.now ≡ named.ranks.now
  pub same_tag : offer.tag ≡ named.tag
  pub same_here : offer.here ≡ named.here
  pub placed : offer.place ≡ place
  pub times : Times (key_of offer) (map key_of old) offer.turn

-- the calls of MPI_Comm_create_group of a member on its handle, where there are some
pub record IsListOn (views : List RankView) (member : Member) (list : List ℕ) : Type 0 where
  pub each : (k at : ℕ) → slice_get list k ≡ Some at → (handle : ℕ) × (member.handle ≡ Some handle) × (by_group_at views member.rank handle k ≡ Some at)

-- A call at this place of the parent is one of those.
pub record IsOneOf (calls : List Offer) (place : ℕ) (here : Here) : Type 0 where
  pub k : ℕ
  pub offer : Offer
  pub noted : slice_get calls k ≡ Some offer
  pub same_place : offer.place ≡ place
  pub same : offer.here ≡ here

-- What stands at the places are calls of those.
pub record AreOfCalls (calls : List Offer) (all : List (Option Here)) : Type 0 where
  pub each : (place : ℕ) (here : Here) → slice_get all place ≡ Some (Some here) → IsOneOf calls place here

-- What stands at a place is what stands there in the other list.
pub record AreSomeOf (all some : List (Option Here)) : Type 0 where
  pub each : (place : ℕ) (here : Here) → slice_get some place ≡ Some (Some here) → slice_get all place ≡ Some (Some here)

-- The call names this group with this tag, behind so many of its member that do.
abbrev pub IsOfTurn : List ℕ → ℤ → ℕ → Offer → Type 0
IsOfTurn group tag turn offer = (offer.ranks.now ≡ group) × (offer.tag ≡ tag) × (offer.turn ≡ turn)

-- The first calls do.
pub record AreSameTo (calls : List Offer) (group : List ℕ) (tag : ℤ) (turn count : ℕ) : Type 0 where
  pub each : (k : ℕ) (offer : Offer) → slice_get calls k ≡ Some offer → k < count → IsOfTurn group tag turn offer

-- All calls do.
pub record AreSame (calls : List Offer) (group : List ℕ) (tag : ℤ) (turn : ℕ) : Type 0 where
  pub each : (k : ℕ) (offer : Offer) → slice_get calls k ≡ Some offer → IsOfTurn group tag turn offer

-- a communicator of the members at these places of the parent, without dimensions
abbrev pub part_at : List ℕ → Selection
part_at places = record { places = places; dims = None }

-- calls that one communicator is made of, at the places of a group in the parent
pub record IsSoundAt (places : List ℕ) (all : List (Option Here)) : Type 0 where
  pub readable : list_any gives_unknown all ≡ false
  pub given : AreGiven false all (part_at places ∷ [])

-- A call at this place of the parent names this group with this tag, behind so many of its member that do.
pub record IsAmong (calls : List Offer) (group : List ℕ) (tag : ℤ) (turn place : ℕ) (here : Here) : Type 0 where
  pub one : IsOneOf calls place here
  pub of_turn : IsOfTurn group tag turn one.offer

-- A communicator of some of the calls, which name one group of members with one tag, each behind so many that do.
pub record IsFound (calls : List Offer) (members : List Member) (ranks : List ℕ) (comm : Made) : Type 0 where
  pub group : List ℕ
  pub tag : ℤ
  pub turn : ℕ
  pub places : List ℕ
  pub all : List (Option Here)
  pub within : ArePlaces ranks places group
  pub of_calls : (place : ℕ) (here : Here) → slice_get all place ≡ Some (Some here) → IsAmong calls group tag turn place here
  pub sound : IsSoundAt places all
  pub made : IsMadeOf members all (part_at places) comm

-- Each communicator is made by such calls.
pub record AreFound (calls : List Offer) (members : List Member) (ranks : List ℕ) (comms : List Made) : Type 0 where
  pub each : (at : ℕ) (comm : Made) → slice_get comms at ≡ Some comm → IsFound calls members ranks comm

-- What the calls make is a communicator of some of them, at these places of the parent.
abbrev pub IsTurnOf : List Offer → List Member → List ℕ → Turn → Type 0
IsTurnOf calls members places (turns.Made comm all) = AreOfCalls calls all.items × IsSoundAt places all.items × IsMadeOf members all.items (part_at places) comm
IsTurnOf calls members places turns.Waits = Unit {0}
IsTurnOf calls members places turns.Unsound = Unit {0}
