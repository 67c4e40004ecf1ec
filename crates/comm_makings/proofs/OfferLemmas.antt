-- The groups that the calls of MPI_Comm_create offer, one call after the other.
use Rattle.std.proofs.Common.{◌≡◌, ℕ, ◌+◌, ◌≤◌, ◌==◌, ◌++◌, Bool, false, true, cond, List, [], ◌∷◌, Option, Some, None, Vec, length, map, set, ap, ◌∙◌, sym, subst, inl, inr, refl, arith}
use Rattle.std.specs.List.{slice_get}
use Rattle.std.specs.declared.alloc.Global.{Global}
use Rattle.std.proofs.lemmas.Bool.{cases_lt}
use Rattle.std.proofs.lemmas.Bool.Decides.{nat_tests}
use Rattle.std.proofs.lemmas.Option.{slice_get_within}
use Rattle.comm_groups.specs.Groups.{has}
use Rattle.comm_makings.specs.Derives.{ArePlaces}
use Rattle.comm_makings.specs.Offers.{AddsOffer, AreKnown, AreKnownTo, AreOfWanted, AreOfferedParts, AreRanked, AreWanted, IsKnown, IsOfferedPart, IsWanted, group_of}
use Rattle.comm_makings.specs.Selection.{Selection}
use Rattle.comm_makings.specs.declared.creates.Offer.{Offer}
use Rattle.comm_makings.specs.declared.group_value.GroupValue.{GroupValue}
use Rattle.comm_makings.specs.declared.here.Here.{Here}
use Rattle.comm_makings.specs.declared.state.Made.{Made}
use Rattle.comm_makings.proofs.Lists.{get_more, get_set}

pub adds_none : (offers : List Offer) (rank : ℕ) (ranks : List ℕ) → AddsOffer offers offers rank ranks
adds_none offers rank ranks = record { each = λ k offer e w. inl (offer, e, w, refl) }

pub adds_one : (offers : List Offer) (one : Offer) (rank : ℕ) (ranks : List ℕ) → one.ranks.items ≡ ranks → (one.wanted ≡ true → has ranks rank ≡ true)
    → AddsOffer offers (offers ++ one ∷ []) rank ranks
adds_one offers one rank ranks same wants = record {
  each = λ k offer e w. elim (get_more offers one k offer e) [
    | inl before ↦ inl (offer, before, w, refl)
    | inr is ↦ inr (ap (λ (o : Offer). o.ranks.items) is.1 ∙ same, wants (sym (ap (λ (o : Offer). o.wanted) is.1) ∙ w))
  ];
}

pub adds_again : (offers : List Offer) (at : ℕ) (one : Offer) (rank : ℕ) (ranks : List ℕ) → one.ranks.items ≡ ranks → has ranks rank ≡ true
    → AddsOffer offers (set offers at one) rank ranks
adds_again offers at one rank ranks same wanted = record {
  each = λ k offer e w. elim (get_set offers at one k offer e) [
    | inl before ↦ inl (offer, before, w, refl)
    | inr is ↦ inr (ap (λ (o : Offer). o.ranks.items) is.1 ∙ same, wanted)
  ];
}

module _ (values : List (Vec GroupValue Global)) (comms : List Made) (all : List (Option Here)) where
  pub wanted_none : AreWanted values comms all []
  wanted_none = record { each = λ k offer e w. absurd (cc) }

  -- one more call
  pub wanted_more : (old new : List Offer) (place : ℕ) (here : Here) (ranks : List ℕ) → AreWanted values comms all old → AddsOffer old new here.rank ranks
      → slice_get all place ≡ Some (Some here) → group_of values comms here ≡ Some ranks → AreWanted values comms all new
  wanted_more old new place here ranks are adds called names = record {
    each = λ k offer e w. elim (adds.each k offer e w) [
      | inl before ↦ subst (IsWanted values comms all) (sym before.3) (are.each k before.0 before.1 before.2)
      | inr is ↦ record {
        place = place;
        here = here;
        called = called;
        names = names ∙ ap Some (sym is.0);
        within = ap (λ (l : List ℕ). has l here.rank) is.0 ∙ is.1;
      }
    ];
  }

  pub known_none : AreKnownTo values comms all 0
  known_none = record { each = λ place here e below. absurd (omega arith) }

  known_at : (i place : ℕ) (here : Option Here) → slice_get all i ≡ Some here → IsKnown values comms here → (other : Option Here) → slice_get all place ≡ Some other → place ≡ i
      → IsKnown values comms other
  known_at i place here e known other f same =
      let is : here ≡ other = cc in
      subst (IsKnown values comms) is known

  -- one more call whose group is known
  pub known_more : (i : ℕ) (here : Option Here) → AreKnownTo values comms all i → slice_get all i ≡ Some here → IsKnown values comms here → AreKnownTo values comms all (i + 1)
  known_more i here are e known = record {
    each = λ place other f below. elim (cases_lt place i) [
      | inl less ↦ are.each place other f less
      | inr past ↦ known_at i place here e known other f (omega arith)
    ];
  }

  pub known_all : (i : ℕ) → length all ≤ i → AreKnownTo values comms all i → AreKnown values comms all
  known_all i past are = record { each = λ place here e. are.each place here e (let w = slice_get_within all place here e in omega arith) }

-- one more communicator of the offers
pub offered_none : (ranks : List ℕ) (offers : List Offer) → AreOfferedParts ranks offers []
offered_none ranks offers = record { each = λ at part e. absurd (cc) }

pub offered_more : (ranks : List ℕ) (offers : List Offer) (parts : List Selection) (part : Selection) (k : ℕ) (offer : Offer) → AreOfferedParts ranks offers parts
    → slice_get offers k ≡ Some offer → offer.wanted ≡ true → ArePlaces ranks part.places offer.ranks.items → part.dims ≡ None
    → AreOfferedParts ranks offers (parts ++ part ∷ [])
offered_more ranks offers parts part k offer are here wanted places dims = record {
  each = λ at other e. elim (get_more parts part at other e) [
    | inl before ↦ are.each at other before
    | inr is ↦ subst (IsOfferedPart ranks offers) (sym is.1) (record { k = k; offer = offer; here = here; wanted = wanted; places = places; dims = dims })
  ];
}

-- the communicators of offers that are marked
pub of_wanted : (values : List (Vec GroupValue Global)) (comms : List Made) (all : List (Option Here)) (ranks : List ℕ) (offers : List Offer) (parts : List Selection)
    → AreWanted values comms all offers → AreOfferedParts ranks offers parts → AreOfWanted values comms all ranks parts
of_wanted values comms all ranks offers parts are of = record {
  each = λ at part e.
      let one : IsOfferedPart ranks offers part = of.each at part e in
      record { group = one.offer.ranks.items; wanted = are.each one.k one.offer one.here one.wanted; places = one.places; dims = one.dims };
}

pub ranked_none : (f : ℕ → Option ℕ) (ranks : List ℕ) → ((rank : ℕ) → f rank ≡ None) → AreRanked f ranks
ranked_none f ranks none = record { each = λ rank place e. let n = none rank in absurd (cc) }

ranked_by : (f : ℕ → Option ℕ) (ranks : List ℕ) (rank place : ℕ) → AreRanked f ranks → slice_get ranks place ≡ Some rank → (b : Bool) (r p : ℕ) → (b ≡ true → rank ≡ r)
    → cond b (Some place) (f r) ≡ Some p → slice_get ranks p ≡ Some r
ranked_by f ranks rank place are here true r p same e =
    let is : place ≡ p = cc in
    ap (slice_get ranks) (sym is) ∙ here ∙ ap Some (same refl)
ranked_by f ranks rank place are here false r p same e = are.each r p e

same_rank : (rank r : ℕ) → (rank == r) ≡ true → rank ≡ r
same_rank rank r e = grind (arith, nat_tests)

-- one more rank, with its place
pub ranked_more : (f g : ℕ → Option ℕ) (ranks : List ℕ) (rank place : ℕ) → AreRanked f ranks → ((r : ℕ) → g r ≡ cond (rank == r) (Some place) (f r))
    → slice_get ranks place ≡ Some rank → AreRanked g ranks
ranked_more f g ranks rank place are is here = record {
  each = λ r p e. ranked_by f ranks rank place are here (rank == r) r p (same_rank rank r) (sym (is r) ∙ e);
}

-- the places of a group's ranks, which are looked up one by one
places_looked : (f : ℕ → Option ℕ) (ranks places group : List ℕ) → AreRanked f ranks → map Some places ≡ map f group → ArePlaces ranks places group
places_looked f ranks [] [] is e = refl
places_looked f ranks [] (g ∷ group) is e = absurd (cc)
places_looked f ranks (p ∷ places) [] is e = absurd (cc)
places_looked f ranks (p ∷ places) (g ∷ group) is e =
    let looked : f g ≡ Some p = cc in
    let others : map Some places ≡ map f group = cc in
    let first : slice_get ranks p ≡ Some g = is.each g p looked in
    let rest : map (slice_get ranks) places ≡ map Some group = places_looked f ranks places group is others in
    cc

pub places_are : (f : ℕ → Option ℕ) (ranks places group : List ℕ) → AreRanked f ranks → map Some places ≡ map f group → ArePlaces ranks places group
places_are f ranks places group is e = places_looked f ranks places group is e
