-- The groups that the calls of MPI_Comm_create offer.
use Rattle.std.specs.Prelude.{◌≡◌, ◌⊎◌, ◌<◌, ℕ, true, List, Option, Some, None, Vec, is_some}
use Rattle.std.specs.List.{slice_get}
use Rattle.std.specs.Option.{option_and_then}
use Rattle.std.specs.declared.alloc.Global.{Global}
use Rattle.comm_groups.specs.Groups.{has}
use Rattle.comm_makings.specs.Derives.{ArePlaces}
use Rattle.comm_makings.specs.Groups.{ranks_at}
use Rattle.comm_makings.specs.Selection.{Selection}
use Rattle.comm_makings.specs.State.{parts_in}
use Rattle.comm_makings.specs.declared.creates.Offer.{Offer}
use Rattle.comm_makings.specs.declared.group_value.GroupValue.{GroupValue}
use Rattle.comm_makings.specs.declared.here.Here.{Here}
use Rattle.comm_makings.specs.declared.parts.Outcome.{Outcome}
use Rattle.comm_makings.specs.declared.state.Made.{Made}

-- the ranks of the group that a call names, where they are known
abbrev pub group_of : List (Vec GroupValue Global) → List Made → Here → Option (List ℕ)
group_of values comms here = option_and_then (λ row. ranks_at comms row.items here.group) (slice_get values here.rank)

-- The ranks of the group that a call names are known, where the call is there.
abbrev pub IsKnown : List (Vec GroupValue Global) → List Made → Option Here → Type 0
IsKnown values comms None = Unit {0}
IsKnown values comms (Some here) = is_some (group_of values comms here) ≡ true

-- the groups of the first calls are known
pub record AreKnownTo (values : List (Vec GroupValue Global)) (comms : List Made) (all : List (Option Here)) (count : ℕ) : Type 0 where
  pub each : (place : ℕ) (here : Option Here) → slice_get all place ≡ Some here → place < count → IsKnown values comms here

-- The ranks of the groups that all calls name are known.
pub record AreKnown (values : List (Vec GroupValue Global)) (comms : List Made) (all : List (Option Here)) : Type 0 where
  pub each : (place : ℕ) (here : Option Here) → slice_get all place ≡ Some here → IsKnown values comms here

-- The call of one of its own names this group.
pub record IsWanted (values : List (Vec GroupValue Global)) (comms : List Made) (all : List (Option Here)) (ranks : List ℕ) : Type 0 where
  pub place : ℕ
  pub here : Here
  pub called : slice_get all place ≡ Some (Some here)
  pub names : group_of values comms here ≡ Some ranks
  pub within : has ranks here.rank ≡ true

-- those that are marked as such
pub record AreWanted (values : List (Vec GroupValue Global)) (comms : List Made) (all : List (Option Here)) (offers : List Offer) : Type 0 where
  pub each : (k : ℕ) (offer : Offer) → slice_get offers k ≡ Some offer → offer.wanted ≡ true → IsWanted values comms all offer.ranks.items

-- Behind the call of a rank that names a group no other offers are marked than were before, but for that group if the
-- rank is in it.
pub record AddsOffer (old new : List Offer) (rank : ℕ) (ranks : List ℕ) : Type 0 where
  pub each : (k : ℕ) (offer : Offer) → slice_get new k ≡ Some offer → offer.wanted ≡ true
      → ((before : Offer) × (slice_get old k ≡ Some before) × (before.wanted ≡ true) × (offer.ranks.items ≡ before.ranks.items)) ⊎ ((offer.ranks.items ≡ ranks) × (has ranks rank ≡ true))

-- one of the offers that is marked, by the places of its ranks
pub record IsOfferedPart (ranks : List ℕ) (offers : List Offer) (part : Selection) : Type 0 where
  pub k : ℕ
  pub offer : Offer
  pub here : slice_get offers k ≡ Some offer
  pub wanted : offer.wanted ≡ true
  pub places : ArePlaces ranks part.places offer.ranks.items
  pub dims : part.dims ≡ None

-- Each communicator is one of the offers that are marked, by the places of its ranks.
pub record AreOfferedParts (ranks : List ℕ) (offers : List Offer) (parts : List Selection) : Type 0 where
  pub each : (at : ℕ) (part : Selection) → slice_get parts at ≡ Some part → IsOfferedPart ranks offers part

-- A communicator of a group that one of its own names.
pub record IsOfWanted (values : List (Vec GroupValue Global)) (comms : List Made) (all : List (Option Here)) (ranks : List ℕ) (part : Selection) : Type 0 where
  pub group : List ℕ
  pub wanted : IsWanted values comms all group
  pub places : ArePlaces ranks part.places group
  pub dims : part.dims ≡ None

-- Each communicator is that of a group that one of its own ranks names.
pub record AreOfWanted (values : List (Vec GroupValue Global)) (comms : List Made) (all : List (Option Here)) (ranks : List ℕ) (parts : List Selection) : Type 0 where
  pub each : (at : ℕ) (part : Selection) → slice_get parts at ≡ Some part → IsOfWanted values comms all ranks part

-- The place that is looked up for a rank is one at which it stands.
pub record AreRanked (place_of : ℕ → Option ℕ) (ranks : List ℕ) : Type 0 where
  pub each : (rank place : ℕ) → place_of rank ≡ Some place → slice_get ranks place ≡ Some rank

-- The communicators of an outcome are offers, by the places of their ranks in each list whose places are these.
abbrev pub AreOffersAt : (ℕ → Option ℕ) → List Offer → Outcome → Type 0
AreOffersAt place_of offers outcome = (ranks : List ℕ) (parts : List Selection) → AreRanked place_of ranks → parts_in outcome ≡ Some parts
    → AreOfferedParts ranks offers parts
