-- What derives from what: a lemma for each step of the derivation.
use Rattle.std.proofs.Common.{◌≡◌, ◌+◌, ℕ, ◌++◌, false, true, is_some, List, [], ◌∷◌, Option, Some, None, All, Vec, length, ap, ◌∙◌, sym, inl, inr, refl, subst}
use Rattle.std.specs.List.{list_any, slice_get}
use Rattle.std.specs.declared.alloc.Global.{Global}
use Rattle.comm_groups.specs.Groups.{has}
use Rattle.comm_makings.specs.ByGroups.{AreFound, AreRightOffers, IsAmong, IsFound, IsRightOffer}
use Rattle.comm_makings.specs.Derives.{ArePlaces, Derives, IsCaller, IsCreation, IsGroupMaking, IsMaking, IsOfOffered, by_group, communicator, created, kth_calls, kth_with, made, member_with, members_at, own, ranks_in, ranks_of, read_creation, read_left, read_making, read_to, world, world_members}
use Rattle.comm_makings.specs.GroupKeys.{key_with}
use Rattle.comm_makings.specs.Here.{HasFunction, first_of, gives_later, gives_unknown}
use Rattle.comm_makings.specs.Made.{IsMakingOrder, own_order, world_order}
use Rattle.comm_makings.specs.Makes.{AreGiven, IsMadeBy, IsOneMaking}
use Rattle.comm_makings.specs.Offers.{AreKnown, AreOfWanted, IsOfWanted, IsWanted, group_of}
use Rattle.comm_makings.specs.Selection.{Selection}
use Rattle.comm_makings.specs.State.{AreAllDerivedGroups, AreDerived, AreMadeOf, AreNext, IsDerivedComm, IsDerivedOutcome, IsFirstComm, IsOfDerived, IsOfPart, dims_of, is_read, parts_in}
use Rattle.comm_makings.specs.Untold.{AreLeft}
use Rattle.comm_makings.specs.declared.answer.MadeBy.{MadeBy}
use Rattle.comm_makings.specs.declared.answer.MadeBy.TheVariants as functions
use Rattle.comm_makings.specs.declared.by_groups.Offer.{Offer}
use Rattle.comm_makings.specs.declared.calls.RankCalls.{RankCalls}
use Rattle.comm_makings.specs.declared.group_value.GroupValue.{GroupValue}
use Rattle.comm_makings.specs.declared.here.Here.{Here}
use Rattle.comm_makings.specs.declared.parts.Outcome.{Outcome}
use Rattle.comm_makings.specs.declared.parts.Outcome.TheVariants as outcomes
use Rattle.comm_makings.specs.declared.run.Gained.TheVariants as gains
use Rattle.comm_makings.specs.declared.state.Made.{Made}
use Rattle.comm_makings.specs.declared.state.Member.{Member}
use Rattle.comm_makings.specs.declared.state.Order.{Order}
use Rattle.comm_makings.specs.declared.view.RankView.{RankView}
use Rattle.comm_makings.proofs.Lists.{each_more, get_join}
use Rattle.comm_makings.proofs.KthCalls.{caller_is, kth_of_turn}
use Rattle.comm_makings.proofs.Values.{group_derives}

offered_of : Option (List ℕ) → List ℕ
offered_of None = []
offered_of (Some list) = list

offered_by : List (Vec GroupValue Global) → List Made → Option Here → List ℕ
offered_by rows comms None = []
offered_by rows comms (Some here) = offered_of (group_of rows comms here)

-- the group that the call at a place names
abbrev offered_here : List (Vec GroupValue Global) → List Made → Option (Option Here) → List ℕ
offered_here rows comms None = []
offered_here rows comms (Some here) = offered_by rows comms here

offered_at : List (Vec GroupValue Global) → List Made → List (Option Here) → ℕ → List ℕ
offered_at rows comms all place = offered_here rows comms (slice_get all place)

offered_known : (o : Option (List ℕ)) → is_some o ≡ true → o ≡ Some (offered_of o)
unfolding offered_of
offered_known None e = absurd (cc)
offered_known (Some list) e = refl

offered_is : (rows : List (Vec GroupValue Global)) (comms : List Made) (all : List (Option Here)) (place : ℕ) (here : Here)
    → slice_get all place ≡ Some (Some here) → offered_at rows comms all place ≡ offered_of (group_of rows comms here)
unfolding offered_at offered_by
offered_is rows comms all place here e = ap (offered_here rows comms) e

-- a communicator of a group that one of its own offers
of_offered : (rows : List (Vec GroupValue Global)) (comms : List Made) (all : List (Option Here)) (members : List Member) (part : Selection)
    → IsOfWanted rows comms all (ranks_in members) part → IsOfOffered members all (offered_at rows comms all) part
unfolding offered_of
of_offered rows comms all members part is =
    let w : IsWanted rows comms all is.group = is.wanted in
    let same : offered_at rows comms all w.place ≡ is.group = offered_is rows comms all w.place w.here w.called ∙ ap offered_of w.names in
    record {
      place = w.place;
      here = w.here;
      called = w.called;
      within = ap (λ (l : List ℕ). has l w.here.rank) same ∙ w.within;
      places = subst (ArePlaces (ranks_in members) part.places) (sym same) is.places;
      dims = is.dims;
    }

-- The calls are one making.
pub one_making : (function : MadeBy) (all : List (Option Here)) (first : Here) → first_of all ≡ Some first → first.function ≡ function
    → All (HasFunction function) all → (gives_later function ≡ false → list_any gives_unknown all ≡ false) → IsOneMaking function all
one_making function all first is called same readable = record { first = first; is_first = is; called = called; same = same; readable = readable }

module _ (ranks : List RankCalls) (views : List RankView) where
  pub derived_none : AreDerived ranks views []
  derived_none = record { each = λ at comm e. absurd (cc) }

  pub derived_more : (comms : List Made) (comm : Made) → AreDerived ranks views comms → IsDerivedComm ranks views comm → AreDerived ranks views (comms ++ comm ∷ [])
  derived_more comms comm are is = record { each = each_more (IsDerivedComm ranks views) comms comm are.each is }

  pub derived_join : (comms more : List Made) → AreDerived ranks views comms → AreDerived ranks views more → AreDerived ranks views (comms ++ more)
  derived_join comms more are others = record {
    each = λ at comm e. elim (get_join comms more at comm e) [ inl before ↦ are.each at comm before | inr is ↦ others.each is.0 comm is.1 ];
  }

  pub derived_at : (comms : List Made) (at : ℕ) (comm : Made) → AreDerived ranks views comms → slice_get comms at ≡ Some comm → IsDerivedComm ranks views comm
  derived_at comms at comm are e = are.each at comm e

  -- one of the communicators that the k-th calls make
  made_derives : (members : List Member) (dims : Option (List ℕ)) (k : ℕ) (all : List (Option Here)) (parts : List Selection) (at : ℕ) (part : Selection) (order : Order)
      → AreNext ranks views members dims all k → IsMaking ranks views dims all parts → slice_get parts at ≡ Some part → IsMakingOrder part.places all order
      → Derives ranks views (communicator (members_at members all part.places) part.dims order)
  made_derives members dims k all parts at part order next making here ordered =
      let P : List (Option Here) → Type 0 = λ calls. IsMaking ranks views dims calls parts → IsMakingOrder part.places calls order
      → Derives ranks views (communicator (members_at members calls part.places) part.dims order) in
      let step : P (kth_calls ranks views k members) = λ is ord. made members dims k parts at part order next.reads is here ord in
      subst P (sym next.calls) step making ordered

  made_read : (members : List Member) (dims : Option (List ℕ)) (k : ℕ) (all : List (Option Here)) (parts : List Selection) → AreNext ranks views members dims all k
      → IsMaking ranks views dims all parts → Derives ranks views (read_to members dims (k + 1))
  made_read members dims k all parts next making =
      read_making members dims k parts next.reads (subst (λ (calls : List (Option Here)). IsMaking ranks views dims calls parts) next.calls making)

  left_read : (members : List Member) (dims : Option (List ℕ)) (k : ℕ) (all : List (Option Here)) → AreNext ranks views members dims all k
      → AreLeft all → Derives ranks views (read_to members dims (k + 1))
  left_read members dims k all next left =
      read_left members dims k next.reads (subst AreLeft next.calls left)

  none_in : (outcome : Outcome) → is_read outcome ≡ false → parts_in outcome ≡ None
  none_in (outcomes.Parts list) e = absurd (let bad : true ≡ false = e in cc)
  none_in outcomes.Untold e = absurd (let bad : true ≡ false = e in cc)
  none_in outcomes.Unsound e = refl
  none_in outcomes.Waits e = refl

  -- Nothing is made, and nothing more is read.
  pub unsound_derives : (members : List Member) (dims : Option (List ℕ)) (all : List (Option Here)) (outcome : Outcome) → is_read outcome ≡ false
      → IsDerivedOutcome ranks views members dims all outcome
  unsound_derives members dims all outcome none = record {
    each = λ k parts at part order next e here ordered. absurd (let nothing : None ≡ Some parts = sym (none_in outcome none) ∙ e in cc);
    read = λ k next e. absurd (let bad : false ≡ true = sym none ∙ e in cc);
  }

  -- No member has such a call.
  pub none_here : (members : List Member) (dims : Option (List ℕ)) (all : List (Option Here)) → first_of all ≡ None → IsDerivedOutcome ranks views members dims all outcomes.Untold
  none_here members dims all none = record {
    each = λ k parts at part order next e here ordered. absurd (cc);
    read = λ k next e. left_read members dims k all next (inl none);
  }

  -- what the calls of one making make
  pub making_derives : (members : List Member) (dims : Option (List ℕ)) (all : List (Option Here)) (function : MadeBy) (outcome : Outcome) → IsOneMaking function all
      → ((parts : List Selection) → parts_in outcome ≡ Some parts → IsMadeBy ranks views dims all function parts)
      → ((parts : List Selection) → parts_in outcome ≡ Some parts → AreGiven (gives_later function) all parts)
      → IsDerivedOutcome ranks views members dims all outcome
  making_derives members dims all function outcome one by given =
      let making : (parts : List Selection) → parts_in outcome ≡ Some parts → IsMaking ranks views dims all parts =
      λ parts e. record { function = function; one = one; made = by parts e; given = given parts e } in
      record {
        each = λ k parts at part order next e here ordered. made_derives members dims k all parts at part order next (making parts e) here ordered;
        read = λ k next e. read_by k next outcome refl e making;
      }
    where
      read_by : (k : ℕ) → AreNext ranks views members dims all k → (o : Outcome) → outcome ≡ o → is_read outcome ≡ true
          → ((parts : List Selection) → parts_in outcome ≡ Some parts → IsMaking ranks views dims all parts) → Derives ranks views (read_to members dims (k + 1))
      read_by k next (outcomes.Parts list) is e making = made_read members dims k all list.items next (making list.items (ap parts_in is))
      read_by k next outcomes.Untold is e making = left_read members dims k all next (inr (function, one))
      read_by k next outcomes.Unsound is e making = absurd (let bad : false ≡ true = ap is_read (sym is) ∙ e in cc)
      read_by k next outcomes.Waits is e making = absurd (let bad : false ≡ true = ap is_read (sym is) ∙ e in cc)

  -- a communicator of these members
  pub comm_is : (members : List Member) (dims : Option (List ℕ)) (order : Order) (comm : Made) → Derives ranks views (communicator members dims order) → comm.members.items ≡ members → dims_of comm ≡ dims
      → comm.order ≡ order → comm.ranks.items ≡ ranks_in comm.members.items → comm.remote_size ≡ 0 → IsDerivedComm ranks views comm
  comm_is members dims order comm derives same dims_same order_same same_ranks one_group = record {
    derives = subst (λ (o : Order). Derives ranks views (communicator comm.members.items (dims_of comm) o)) (sym order_same)
        (subst (λ (d : Option (List ℕ)). Derives ranks views (communicator comm.members.items d order)) (sym dims_same)
        (subst (λ (l : List Member). Derives ranks views (communicator l dims order)) (sym same) derives));
    same_ranks = same_ranks;
    one_group = one_group;
  }

  -- All that is made of the parts derives.
  pub outcome_derives : (members : List Member) (dims : Option (List ℕ)) (all : List (Option Here)) (outcome : Outcome) (parts : List Selection) (comms : List Made) (k : ℕ)
      → IsDerivedOutcome ranks views members dims all outcome → AreNext ranks views members dims all k → parts_in outcome ≡ Some parts → AreMadeOf members all parts comms
      → AreDerived ranks views comms
  outcome_derives members dims all outcome parts comms k derives next is of = record {
    each = λ at comm e. let m = of.each at comm e in
        comm_is (members_at members all m.1.places) m.1.dims comm.order comm (derives.each k parts m.0 m.1 comm.order next is m.2 m.3.order) m.3.chosen m.3.dims refl m.3.same_ranks m.3.one_group;
  }

  -- what a making gives
  pub gained_comms : (members : List Member) (dims : Option (List ℕ)) (all : List (Option Here)) (outcome : Outcome) (parts : List Selection) (comms : Vec Made Global)
      → IsDerivedOutcome ranks views members dims all outcome → parts_in outcome ≡ Some parts → is_read outcome ≡ true → AreMadeOf members all parts comms.items
      → IsOfDerived ranks views members dims all (gains.Comms comms)
  gained_comms members dims all outcome parts comms derives is read of = record {
    comms = λ k next. outcome_derives members dims all outcome parts comms.items k derives next is of;
    read = λ k next e. derives.read k next read;
  }

  pub gained_untold : (members : List Member) (dims : Option (List ℕ)) (all : List (Option Here)) → IsDerivedOutcome ranks views members dims all outcomes.Untold
      → IsOfDerived ranks views members dims all gains.Untold
  gained_untold members dims all derives = record { comms = λ k next. tt; read = λ k next e. derives.read k next refl }

  pub gained_unsound : (members : List Member) (dims : Option (List ℕ)) (all : List (Option Here)) → IsOfDerived ranks views members dims all gains.Unsound
  gained_unsound members dims all = record { comms = λ k next. tt; read = λ k next e. absurd (let bad : false ≡ true = e in cc) }

  pub gained_waits : (members : List Member) (dims : Option (List ℕ)) (all : List (Option Here)) → IsOfDerived ranks views members dims all gains.Waits
  gained_waits members dims all = record { comms = λ k next. tt; read = λ k next e. absurd (let bad : false ≡ true = e in cc) }

  -- the calls of one MPI_Comm_create, with the groups that they name
  creation_is : (members : List Member) (all : List (Option Here)) (comms : List Made) (rows : List (Vec GroupValue Global)) (parts : List Selection)
      → IsOneMaking functions.Create all → AreOfWanted rows comms all (ranks_in members) parts → AreGiven false all parts → IsCreation members all (offered_at rows comms all) parts
  creation_is members all comms rows parts one wanted given = record { one = one; made = λ i p f. of_offered rows comms all members p (wanted.each i p f); given = given }

  offered_derive : (all : List (Option Here)) (comms : List Made) (rows : List (Vec GroupValue Global)) → AreAllDerivedGroups ranks views comms rows → AreKnown rows comms all
      → (place : ℕ) (here : Here) → slice_get all place ≡ Some (Some here) → Derives ranks views (ranks_of here.rank here.group (offered_at rows comms all place))
  unfolding offered_of
  offered_derive all comms rows groups known place here found =
      subst (λ (l : List ℕ). Derives ranks views (ranks_of here.rank here.group l)) (sym (offered_is rows comms all place here found))
      (group_derives ranks views comms rows groups here (offered_of (group_of rows comms here)) (offered_known (group_of rows comms here) (known.each place (Some here) found)))

  -- what the calls of one MPI_Comm_create make
  pub creation_derives : (members : List Member) (dims : Option (List ℕ)) (all : List (Option Here)) (comms : List Made) (rows : List (Vec GroupValue Global)) (outcome : Outcome)
      → AreAllDerivedGroups ranks views comms rows → IsOneMaking functions.Create all
      → ((parts : List Selection) → parts_in outcome ≡ Some parts → AreKnown rows comms all)
      → ((parts : List Selection) → parts_in outcome ≡ Some parts → AreOfWanted rows comms all (ranks_in members) parts)
      → ((parts : List Selection) → parts_in outcome ≡ Some parts → AreGiven false all parts)
      → IsDerivedOutcome ranks views members dims all outcome
  creation_derives members dims all comms rows outcome groups one known wanted given = record {
    each = λ k parts at part order next e here ordered.
        let P : List (Option Here) → Type 0 = λ calls.
        ((place : ℕ) (here : Here) → slice_get calls place ≡ Some (Some here) → Derives ranks views (ranks_of here.rank here.group (offered_at rows comms all place)))
        → IsCreation members calls (offered_at rows comms all) parts → IsMakingOrder part.places calls order
        → Derives ranks views (communicator (members_at members calls part.places) part.dims order) in
        let step : P (kth_calls ranks views k members) =
        λ derive is ord. created members dims k (offered_at rows comms all) parts at part order next.reads derive is here ord in
        subst P (sym next.calls) step (offered_derive all comms rows groups (known parts e)) (creation_is members all comms rows parts one (wanted parts e) (given parts e)) ordered;
    read = λ k next e. read_by k next outcome refl e;
  }
    where
      read_by : (k : ℕ) → AreNext ranks views members dims all k → (o : Outcome) → outcome ≡ o → is_read outcome ≡ true → Derives ranks views (read_to members dims (k + 1))
      read_by k next (outcomes.Parts list) is e =
          let parts : List Selection = list.items in
          let here : parts_in outcome ≡ Some parts = ap parts_in is in
          let P : List (Option Here) → Type 0 = λ calls.
          ((place : ℕ) (here : Here) → slice_get calls place ≡ Some (Some here) → Derives ranks views (ranks_of here.rank here.group (offered_at rows comms all place)))
          → IsCreation members calls (offered_at rows comms all) parts → Derives ranks views (read_to members dims (k + 1)) in
          let step : P (kth_calls ranks views k members) = λ derive is. read_creation members dims k (offered_at rows comms all) parts next.reads derive is in
          subst P (sym next.calls) step (offered_derive all comms rows groups (known parts here)) (creation_is members all comms rows parts one (wanted parts here) (given parts here))
      read_by k next outcomes.Untold is e = left_read members dims k all next (inr (functions.Create, one))
      read_by k next outcomes.Unsound is e = absurd (let bad : false ≡ true = ap is_read (sym is) ∙ e in cc)
      read_by k next outcomes.Waits is e = absurd (let bad : false ≡ true = ap is_read (sym is) ∙ e in cc)

  -- a communicator of calls of MPI_Comm_create_group
  found_derives : (comms : List Made) (rows : List (Vec GroupValue Global)) (parent : Made) (offers : List Offer) → IsDerivedComm ranks views parent
      → AreAllDerivedGroups ranks views comms rows → AreRightOffers ranks views rows comms parent.members.items offers
      → (comm : Made) → IsFound offers parent.members.items parent.ranks.items comm → IsDerivedComm ranks views comm
  found_derives comms rows parent offers derived groups right comm found =
      let members : List Member = parent.members.items in
      let is_right : (place : ℕ) (here : Here) (among : IsAmong offers found.group found.tag found.turn place here) → IsRightOffer ranks views rows comms members among.one.offer =
      λ place here among. right.each among.one.k among.one.offer among.one.noted in
      let each : (place : ℕ) (here : Here) (member : Member) (handle : ℕ) → slice_get found.all place ≡ Some (Some here) → slice_get members place ≡ Some member
      → member.handle ≡ Some handle → Derives ranks views (kth_with member.rank handle (key_with found.group found.tag) found.turn here) =
      λ place here member handle e m h.
      let among : IsAmong offers found.group found.tag found.turn place here = found.of_calls place here e in
      kth_of_turn ranks views comms rows groups members found.group found.tag found.turn place among.one.offer here member handle (is_right place here among)
      among.of_turn among.one.same_place among.one.same m h in
      let callers : (place : ℕ) (here : Here) → slice_get found.all place ≡ Some (Some here) → IsCaller members place =
      λ place here e.
      let among : IsAmong offers found.group found.tag found.turn place here = found.of_calls place here e in
      caller_is ranks views comms rows members place among.one.offer (is_right place here among) among.one.same_place in
      let making : IsGroupMaking members found.group found.places found.all = record {
        within = subst (λ (l : List ℕ). ArePlaces l found.places found.group) derived.same_ranks found.within;
        callers = callers;
        readable = found.sound.readable;
        given = found.sound.given;
      } in
      comm_is (members_at members found.all found.places) None comm.order comm
      (by_group members (dims_of parent) parent.order comm.order (key_with found.group found.tag) found.turn found.places found.all derived.derives each making found.made.order)
      found.made.chosen found.made.dims refl found.made.same_ranks found.made.one_group

  pub all_found : (comms : List Made) (rows : List (Vec GroupValue Global)) (parent : Made) (offers : List Offer) (found : List Made) → IsDerivedComm ranks views parent
      → AreAllDerivedGroups ranks views comms rows → AreRightOffers ranks views rows comms parent.members.items offers
      → AreFound offers parent.members.items parent.ranks.items found → AreDerived ranks views found
  all_found comms rows parent offers found derived groups right of = record {
    each = λ at comm e. found_derives comms rows parent offers derived groups right comm (of.each at comm e);
  }

  -- what is there from the first call on
  first_is : (members : List Member) (order : Order) (comm : Made) → Derives ranks views (communicator members None order) → IsFirstComm members order comm → IsDerivedComm ranks views comm
  first_is members order comm derives first = comm_is members None order comm derives first.same first.dims first.order (first.same_ranks ∙ ap ranks_in (sym first.same)) first.one_group

  pub world_derives : (comm : Made) → IsFirstComm (world_members (length ranks)) world_order comm → IsDerivedComm ranks views comm
  world_derives comm first = first_is (world_members (length ranks)) world_order comm world first

  pub own_derives : (rank : ℕ) (calls : RankCalls) (number : ℕ) (comm : Made) → slice_get ranks rank ≡ Some calls → calls.own ≡ Some number
      → IsFirstComm (member_with 1 rank ∷ []) (own_order rank) comm → IsDerivedComm ranks views comm
  own_derives rank calls number comm here is first = first_is (member_with 1 rank ∷ []) (own_order rank) comm (own rank calls number here is) first

  own_by : (rank : ℕ) (calls : RankCalls) (comm : Made) (o : Option ℕ) → calls.own ≡ o → is_some o ≡ true → slice_get ranks rank ≡ Some calls
      → IsFirstComm (member_with 1 rank ∷ []) (own_order rank) comm → IsDerivedComm ranks views comm
  own_by rank calls comm None e some here first = absurd (cc)
  own_by rank calls comm (Some number) e some here first = own_derives rank calls number comm here e first

  pub own_some : (rank : ℕ) (calls : RankCalls) (comm : Made) → slice_get ranks rank ≡ Some calls → is_some calls.own ≡ true
      → IsFirstComm (member_with 1 rank ∷ []) (own_order rank) comm → IsDerivedComm ranks views comm
  own_some rank calls comm here some first = own_by rank calls comm calls.own refl some here first

-- one more communicator of the parts
pub made_none : (members : List Member) (all : List (Option Here)) (parts : List Selection) → AreMadeOf members all parts []
made_none members all parts = record { each = λ at comm e. absurd (cc) }

pub made_more : (members : List Member) (all : List (Option Here)) (parts : List Selection) (done : List Made) (i : ℕ) (part : Selection) (comm : Made)
    → slice_get parts i ≡ Some part → comm.members.items ≡ members_at members all part.places → comm.ranks.items ≡ ranks_in comm.members.items → dims_of comm ≡ part.dims
    → IsMakingOrder part.places all comm.order → comm.remote_size ≡ 0 → AreMadeOf members all parts done → AreMadeOf members all parts (done ++ comm ∷ [])
made_more members all parts done i part comm here chosen same_ranks dims order one_group are = record {
  each = each_more (IsOfPart members all parts) done comm are.each (i, part, here, record { chosen = chosen; same_ranks = same_ranks; dims = dims; order = order; one_group = one_group });
}
