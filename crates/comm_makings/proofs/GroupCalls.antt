-- The calls of MPI_Comm_create_group on one parent: what is noted of each, and what is made of those of one group.
use Rattle.std.proofs.Common.{◌≡◌, ℕ, zero, suc, ℤ, ◌+◌, ◌-◌, ◌<◌, ◌≤◌, ◌++◌, List, [], ◌∷◌, Option, Some, None, Vec, length, get_or, replicate, set, take, drop, ap, ◌∙◌, sym, subst, inl, inr, refl, arith, add-one, drop-cons, length-append, length-drop}
use Rattle.std.specs.List.{slice_get}
use Rattle.std.specs.declared.alloc.Global.{Global}
use Rattle.std.specs.List.Sorted.{IsPermutation}
use Rattle.std.proofs.lemmas.Bool.{cases_lt}
use Rattle.std.proofs.lemmas.List.Sorted.{All-permutation}
use Rattle.comm_makings.specs.ByGroups.{AddsCall, AreFound, AreNoted, AreOfCalls, AreOwn, AreRightOffers, AreSame, AreSameTo, AreSomeOf, IsAmong, IsFound, IsListOn, IsNamed, IsNoted, IsOfTurn, IsOneOf, IsOwn, IsRightOffer, IsSoundAt, part_at}
use Rattle.comm_makings.specs.Derives.{ArePlaces}
use Rattle.comm_makings.specs.Offers.{group_of}
use Rattle.comm_makings.specs.State.{IsMadeOf}
use Rattle.comm_makings.specs.declared.by_groups.Named.{Named}
use Rattle.comm_makings.specs.declared.by_groups.Offer.{Offer}
use Rattle.comm_makings.specs.declared.calls.RankCalls.{RankCalls}
use Rattle.comm_makings.specs.declared.group_value.GroupValue.{GroupValue}
use Rattle.comm_makings.specs.declared.here.Here.{Here}
use Rattle.comm_makings.specs.declared.state.Made.{Made}
use Rattle.comm_makings.specs.declared.state.Member.{Member}
use Rattle.comm_makings.specs.declared.view.RankView.{RankView}
use Rattle.comm_makings.proofs.Lists.{All-from_slice_get, All-slice_get, each_more, get_drop, get_join, get_more, get_set, get_take}
use Rattle.comm_makings.proofs.Turns.{counted_more, length_before}

pub adds_length : (old new : List Offer) (named : Named) (place : ℕ) → AddsCall old new named place → length new ≡ length old + 1
adds_length old new named place adds = ap length adds.more ∙ length-append old (adds.offer ∷ [])

module _ (ranks : List RankCalls) (views : List RankView) (rows : List (Vec GroupValue Global)) (comms : List Made) where
  -- the calls of one member
  pub own_none : (member : Member) (place : ℕ) → AreOwn ranks views rows comms member place []
  own_none member place = record { each = λ k offer e. absurd (cc); counted = record { each = λ k offer e. absurd (cc) } }

  own_is : (member : Member) (place : ℕ) (list : List ℕ) (k at : ℕ) (named : Named) (offer : Offer) → IsListOn views member list → slice_get list k ≡ Some at
      → IsNamed ranks views rows comms member.rank at named → offer.ranks.now ≡ named.ranks.now → offer.tag ≡ named.tag → offer.here ≡ named.here → offer.place ≡ place
      → IsOwn ranks views rows comms member place k offer
  own_is member place list k at named offer on here is same_ranks same_tag same_here placed =
      let found = on.each k at here in
      record {
        handle = found.0;
        named = found.1;
        noted = record {
          call = record { at = at; among = found.2; called = is.called ∙ ap Some (sym same_here); tagged = is.tagged ∙ ap Some (sym same_tag) };
          group = ap (group_of rows comms) same_here ∙ is.group ∙ ap Some (sym same_ranks);
        };
        placed = placed;
      }

  pub own_more : (member : Member) (place : ℕ) (list : List ℕ) (k at : ℕ) (named : Named) (own new : List Offer) → AreOwn ranks views rows comms member place own → length own ≡ k
      → IsListOn views member list → slice_get list k ≡ Some at → IsNamed ranks views rows comms member.rank at named → AddsCall own new named place
      → AreOwn ranks views rows comms member place new
  own_more member place list k at named own new are many on here is adds =
      let one : IsOwn ranks views rows comms member place (length own) adds.offer =
      subst (λ (n : ℕ). IsOwn ranks views rows comms member place n adds.offer) (sym many)
      (own_is member place list k at named adds.offer on here is adds.same_ranks adds.same_tag adds.same_here adds.placed) in
      subst (AreOwn ranks views rows comms member place) (sym adds.more) (record {
        each = λ i offer e. elim (get_more own adds.offer i offer e) [
          | inl before ↦ are.each i offer before
          | inr last ↦
              subst (λ (n : ℕ). IsOwn ranks views rows comms member place n offer) (sym last.0)
              (subst (IsOwn ranks views rows comms member place (length own)) (sym last.1) one)
        ];
        counted = counted_more own adds.offer are.counted adds.times;
      })

  -- the calls before one of them
  noted_before : (member : Member) (place : ℕ) (own : List Offer) (handle k : ℕ) → AreOwn ranks views rows comms member place own → member.handle ≡ Some handle
      → AreNoted ranks views rows comms member.rank handle (take k own)
  noted_before member place own handle k are named = record {
    each = λ i offer e.
        let is : IsOwn ranks views rows comms member place i offer = are.each i offer (get_take k own i offer e) in
        let same : is.handle ≡ handle = (let both : Some is.handle ≡ Some handle = sym is.named ∙ named in cc) in
        subst (λ (h : ℕ). IsNoted ranks views rows comms member.rank h i offer) same is.noted;
  }

  module _ (members : List Member) where
    pub right_none : AreRightOffers ranks views rows comms members []
    right_none = record { each = λ k offer e. absurd (cc) }

    -- a call of a member
    own_right : (member : Member) (place : ℕ) (own : List Offer) (k : ℕ) (offer : Offer) → slice_get members place ≡ Some member → AreOwn ranks views rows comms member place own
        → slice_get own k ≡ Some offer → IsRightOffer ranks views rows comms members offer
    own_right member place own k offer here are e =
        let is : IsOwn ranks views rows comms member place k offer = are.each k offer e in
        let many : length (take k own) ≡ k = length_before own k offer e in
        record {
          member = member;
          is_member = ap (slice_get members) is.placed ∙ here;
          handle = is.handle;
          named = is.named;
          before = take k own;
          noted_before = noted_before member place own is.handle k are is.named;
          noted = subst (λ (n : ℕ). IsNoted ranks views rows comms member.rank is.handle n offer) (sym many) is.noted;
          times = are.counted.each k offer e;
        }

    -- the calls of a member behind those of others
    pub right_join : (offers own : List Offer) (member : Member) (place : ℕ) → AreRightOffers ranks views rows comms members offers → slice_get members place ≡ Some member
        → AreOwn ranks views rows comms member place own → AreRightOffers ranks views rows comms members (offers ++ own)
    right_join offers own member place are here owns = record {
      each = λ k offer e. elim (get_join offers own k offer e) [
        | inl before ↦ are.each k offer before
        | inr is ↦ own_right member place own is.0 offer here owns is.1
      ];
    }

    -- The order in which the calls are noted says nothing.
    pub sorted_right : (old new : List Offer) → IsPermutation old new → AreRightOffers ranks views rows comms members old → AreRightOffers ranks views rows comms members new
    sorted_right old new moved are = record {
      each = λ k offer e.
          All-slice_get (IsRightOffer ranks views rows comms members) new k offer
          (All-permutation (IsRightOffer ranks views rows comms members) old new moved (All-from_slice_get (IsRightOffer ranks views rows comms members) old are.each)) e;
    }

-- the calls at the places
pub of_calls_more : (calls : List Offer) (kth : List (Option Here)) (i : ℕ) (offer : Offer) → AreOfCalls calls kth → slice_get calls i ≡ Some offer
    → AreOfCalls calls (set kth offer.place (Some offer.here))
of_calls_more calls kth i offer are at = record {
  each = λ place here e. elim (get_set kth offer.place (Some offer.here) place (Some here) e) [
    | inl before ↦ are.each place here before
    | inr is ↦
        let same : offer.here ≡ here = cc in
        record { k = i; offer = offer; noted = at; same_place = sym is.0; same = same }
  ];
}

none_here : (count place : ℕ) (here : Here) → slice_get (replicate count None) place ≡ Some (Some here) → ⊥
none_here zero place here e = absurd (cc)
none_here (suc count) zero here e = absurd (cc)
none_here (suc count) (suc place) here e = none_here count place here e

pub of_calls_none : (calls : List Offer) (count : ℕ) → AreOfCalls calls (replicate count None)
of_calls_none calls count = record { each = λ place here e. absurd (none_here count place here e) }

pub some_none : (all : List (Option Here)) (count : ℕ) → AreSomeOf all (replicate count None)
some_none all count = record { each = λ place here e. absurd (none_here count place here e) }

pub some_more : (all some : List (Option Here)) (at : ℕ) (here : Option Here) → AreSomeOf all some → slice_get all at ≡ Some here → AreSomeOf all (set some at here)
some_more all some at here are there = record {
  each = λ place one e. elim (get_set some at here place (Some one) e) [
    | inl before ↦ are.each place one before
    | inr is ↦ ap (slice_get all) is.0 ∙ there ∙ ap Some (sym is.1)
  ];
}

pub of_calls_some : (calls : List Offer) (all some : List (Option Here)) → AreOfCalls calls all → AreSomeOf all some → AreOfCalls calls some
of_calls_some calls all some are of = record { each = λ place here e. are.each place here (of.each place here e) }

-- calls of one group, tag and turn
pub same_none : (calls : List Offer) (group : List ℕ) (tag : ℤ) (turn : ℕ) → AreSameTo calls group tag turn 0
same_none calls group tag turn = record { each = λ k offer e below. absurd (omega arith) }

names_at : (group : List ℕ) (tag : ℤ) (turn : ℕ) (calls : List Offer) (at k : ℕ) (one offer : Offer) → slice_get calls at ≡ Some one → IsOfTurn group tag turn one
    → slice_get calls k ≡ Some offer → k ≡ at → IsOfTurn group tag turn offer
names_at group tag turn calls at k one offer here names e same =
    let is : one ≡ offer = cc in
    subst (IsOfTurn group tag turn) is names

pub same_more : (calls : List Offer) (group : List ℕ) (tag : ℤ) (turn at : ℕ) (one : Offer) → AreSameTo calls group tag turn at → slice_get calls at ≡ Some one
    → IsOfTurn group tag turn one → AreSameTo calls group tag turn (at + 1)
same_more calls group tag turn at one are here names = record {
  each = λ k offer e below. elim (cases_lt k at) [
    | inl less ↦ are.each k offer e less
    | inr past ↦ names_at group tag turn calls at k one offer here names e (omega arith)
  ];
}

pub same_all : (calls : List Offer) (group : List ℕ) (tag : ℤ) (turn at : ℕ) → AreSameTo calls group tag turn at → length calls ≤ at → AreSameTo calls group tag turn (length calls)
same_all calls group tag turn at are past = record { each = λ k offer e below. are.each k offer e (omega arith) }

-- a communicator of the calls of one turn
pub found_turn : (calls : List Offer) (members : List Member) (ranks group places : List ℕ) (tag : ℤ) (turn : ℕ) (all : List (Option Here)) (comm : Made)
    → AreSame calls group tag turn → ArePlaces ranks places group → AreOfCalls calls all → IsSoundAt places all → IsMadeOf members all (part_at places) comm
    → IsFound calls members ranks comm
found_turn calls members ranks group places tag turn all comm same within of sound made = record {
  group = group;
  tag = tag;
  turn = turn;
  places = places;
  all = all;
  within = within;
  of_calls = λ place here e.
      let one : IsOneOf calls place here = of.each place here e in
      record { one = one; of_turn = same.each one.k one.offer one.noted };
  sound = sound;
  made = made;
}

pub found_none : (calls : List Offer) (members : List Member) (ranks : List ℕ) → AreFound calls members ranks []
found_none calls members ranks = record { each = λ at comm e. absurd (cc) }

-- Those of some of the calls are of the calls.
pub record AreWithin (some calls : List Offer) : Type 0 where
  pub each : (k : ℕ) (offer : Offer) → slice_get some k ≡ Some offer → (i : ℕ) × (slice_get calls i ≡ Some offer)

among_within : (some calls : List Offer) → AreWithin some calls → (group : List ℕ) (tag : ℤ) (turn place : ℕ) (here : Here)
    → IsAmong some group tag turn place here → IsAmong calls group tag turn place here
among_within some calls within group tag turn place here among =
    let one : IsOneOf some place here = among.one in
    let at = within.each one.k one.offer one.noted in
    record {
      one = record { k = at.0; offer = one.offer; noted = at.1; same_place = one.same_place; same = one.same };
      of_turn = among.of_turn;
    }

found_within : (some calls : List Offer) → AreWithin some calls → (members : List Member) (ranks : List ℕ) (comm : Made)
    → IsFound some members ranks comm → IsFound calls members ranks comm
found_within some calls within members ranks comm found = record {
  group = found.group;
  tag = found.tag;
  turn = found.turn;
  places = found.places;
  all = found.all;
  within = found.within;
  of_calls = λ place here e. among_within some calls within found.group found.tag found.turn place here (found.of_calls place here e);
  sound = found.sound;
  made = found.made;
}

-- the calls from one place on, as many as these
range_within : (calls : List Offer) (n at : ℕ) → AreWithin (take n (drop at calls)) calls
range_within calls n at = record { each = λ k offer e. get_drop at calls k offer (get_take n (drop at calls) k offer e) }

-- the communicator of these calls besides those before
pub found_from : (calls : List Offer) (members : List Member) (ranks : List ℕ) (comms : List Made) (comm : Made) (n at : ℕ) → AreFound calls members ranks comms
    → IsFound (take n (drop at calls)) members ranks comm → AreFound calls members ranks (comms ++ comm ∷ [])
found_from calls members ranks comms comm n at are found = record {
  each = each_more (IsFound calls members ranks) comms comm are.each (found_within (take n (drop at calls)) calls (range_within calls n at) members ranks comm found);
}

first_and : (group : List ℕ) (tag : ℤ) (turn : ℕ) (first : Offer) (rest : List Offer) (n : ℕ) → IsOfTurn group tag turn first → AreSameTo rest group tag turn n
    → (k : ℕ) (offer : Offer) → slice_get (first ∷ rest) k ≡ Some offer → k < suc n → IsOfTurn group tag turn offer
first_and group tag turn first rest n names are zero offer e below =
    let is : first ≡ offer = cc in subst (IsOfTurn group tag turn) is names
first_and group tag turn first rest n names are (suc k) offer e below = are.each k offer e (omega arith)

take_below : (m : ℕ) (xs : List Offer) (k : ℕ) (y : Offer) → slice_get (take m xs) k ≡ Some y → k < m
take_below zero [] k y e = absurd (cc)
take_below zero (x ∷ xs) k y e = absurd (cc)
take_below (suc m) [] k y e = absurd (cc)
take_below (suc m) (x ∷ xs) zero y e = omega arith
take_below (suc m) (x ∷ xs) (suc k) y e = let less = take_below m xs k y e in omega arith

-- the call at a place, and those behind it that are of its turn
pub same_from : (calls : List Offer) (at n m : ℕ) (d : Offer) → at < length calls → m ≡ suc n
    → AreSameTo (drop (at + 1) calls) (get_or calls at d).ranks.now (get_or calls at d).tag (get_or calls at d).turn n
    → AreSame (take m (drop at calls)) (get_or calls at d).ranks.now (get_or calls at d).tag (get_or calls at d).turn
same_from calls at n m d below e same =
    let first : Offer = get_or calls at d in
    let list : drop at calls ≡ first ∷ drop (at + 1) calls =
    drop-cons calls at d below ∙ ap (λ (k : ℕ). first ∷ drop k calls) (sym (add-one at)) in
    record {
      each = λ k offer f.
          let less : k < suc n = (let small = take_below m (drop at calls) k offer f in omega arith) in
          first_and first.ranks.now first.tag first.turn first (drop (at + 1) calls) n (refl, refl, refl) same k offer
          (ap (λ (l : List Offer). slice_get l k) (sym list) ∙ get_take m (drop at calls) k offer f) less;
    }

take_whole : (n : ℕ) (xs : List Offer) → length xs ≤ n → take n xs ≡ xs
take_whole zero [] within = refl
take_whole zero (x ∷ xs) within = absurd (omega arith)
take_whole (suc n) [] within = refl
take_whole (suc n) (x ∷ xs) within = ap (λ (l : List Offer). x ∷ l) (take_whole n xs (omega arith))

-- all calls behind a place
pub same_behind : (calls : List Offer) (at n : ℕ) (group : List ℕ) (tag : ℤ) (turn : ℕ)
    → AreSameTo (take (length calls - (at + 1)) (drop (at + 1) calls)) group tag turn n → AreSameTo (drop (at + 1) calls) group tag turn n
same_behind calls at n group tag turn same =
    subst (λ (l : List Offer). AreSameTo l group tag turn n)
    (take_whole (length calls - (at + 1)) (drop (at + 1) calls) (omega (arith, length-drop (at + 1) calls))) same
