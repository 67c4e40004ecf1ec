-- Intercommunicators that derive: of the offers of two leaders, of another one; and what is merged of one.
use Rattle.std.proofs.Common.{◌≡◌, ℕ, ℤ, Bool, true, false, ◌++◌, List, [], ◌∷◌, Option, Some, None, IfSome, All, Vec, length, take, drop, is_some, option_and_then, ap, ◌∙◌, sym, subst, refl, inl, inr}
use Rattle.std.specs.List.{slice_get}
use Rattle.std.specs.declared.alloc.Global.{Global}
use Rattle.std.proofs.lemmas.Option.{same_Some}
use Rattle.comm_groups.specs.Groups.{intersection_of}
use Rattle.comm_makings.specs.Derives.{Derives, copied, intercomm, joined, kth_calls, members_at, merged, ranks_in}
use Rattle.comm_makings.specs.Here.{first_of, gives_later, meant_at}
use Rattle.comm_makings.specs.Intercomms.{AreOwnCalls, IsJoining, IsMerge, IsMergedOf, IsOwnCall, Offers, SaysHigh, SaysLeader, first_size, is_copy, leaders_at, own_here, whole}
use Rattle.comm_makings.specs.Made.{IsMakingOrder}
use Rattle.comm_makings.specs.Makes.{AreGiven, IsOneMaking}
use Rattle.comm_makings.specs.Offering.{Answer, Asks, IfMerged, IsInterOf, IsMadeByMerge, IsOffer, MakesOfInter, SayAlike, rank_at}
use Rattle.comm_makings.specs.Selection.{Selection}
use Rattle.comm_makings.specs.State.{AreDerived, AreMembers, IsDerivedComm, IsDerivedInter, IsMember, IsMemberOf, StandsFor, dims_of, parts_in, standing_at}
use Rattle.comm_makings.specs.declared.answer.MadeBy.{MadeBy}
use Rattle.comm_makings.specs.declared.answer.MadeBy.TheVariants as functions
use Rattle.comm_makings.specs.declared.calls.Leaders.{Leaders}
use Rattle.comm_makings.specs.declared.calls.RankCalls.{RankCalls}
use Rattle.comm_makings.specs.declared.handle.Meant.{Meant}
use Rattle.comm_makings.specs.declared.here.Here.{Here}
use Rattle.comm_makings.specs.declared.intercomms.OfInter.{OfInter}
use Rattle.comm_makings.specs.declared.intercomms.OfInter.TheVariants as made_of
use Rattle.comm_makings.specs.declared.intercomms.Offer.{Offer}
use Rattle.comm_makings.specs.declared.parts.Outcome.{Outcome}
use Rattle.comm_makings.specs.declared.state.HandleState.{HandleState}
use Rattle.comm_makings.specs.declared.state.HandleState.TheVariants as standings
use Rattle.comm_makings.specs.declared.state.Made.{Made}
use Rattle.comm_makings.specs.declared.state.Member.{Member}
use Rattle.comm_makings.specs.declared.view.RankView.{RankView}
use Rattle.comm_makings.proofs.Derivations.{comm_is}
use Rattle.comm_makings.proofs.Lists.{get_more}

pub asks_so : (comms : List Made) (bridge remote other : ℕ) (leaders : Leaders) (tag : ℤ) → leaders.other ≡ Some remote → rank_at comms bridge remote ≡ Some other → leaders.tag ≡ Some tag
    → Asks comms bridge leaders (other, tag)
asks_so comms bridge remote other leaders tag said reaches tagged = record { remote = remote; remote_said = said; reaches = reaches; tagged = tagged }

pub made_by_merge : (members : List Member) (all : List (Option Here)) (outcome : Outcome) (parts : List Selection) (part : Selection) (comm : Made) → parts_in outcome ≡ Some parts
    → slice_get parts 0 ≡ Some part → AreGiven false all parts → comm.members.items ≡ members_at members all part.places → comm.ranks.items ≡ ranks_in comm.members.items
    → dims_of comm ≡ part.dims → IsMakingOrder part.places all comm.order → comm.remote_size ≡ 0 → IsMadeByMerge members all outcome comm
made_by_merge members all outcome parts part comm made first given chosen same_ranks dims order one_group = record {
  parts = parts;
  part = part;
  made = made;
  first = first;
  given = given;
  is_made = record { chosen = chosen; same_ranks = same_ranks; dims = dims; order = order; one_group = one_group };
}

module _ (ranks : List RankCalls) (views : List RankView) where
  -- ---- offers

  pub offers_so : (stand : List (Vec HandleState Global)) (comms : List Made) (rank at local bridge other own : ℕ) (tag : ℤ) (leaders : Leaders) (meant : Meant)
      → leaders_at ranks rank at ≡ Some leaders → leaders.own ≡ Some own → meant_at views rank at ≡ Some meant
      → option_and_then (standing_at stand rank) meant.comm ≡ Some (standings.Derived local) → rank_at comms local own ≡ Some rank
      → option_and_then (standing_at stand rank) meant.bridge ≡ Some (standings.Derived bridge) → Asks comms bridge leaders (other, tag)
      → IsOffer ranks views stand comms (record { rank = rank; at = at; local = local; bridge = bridge; other = other; tag = tag })
  offers_so stand comms rank at local bridge other own tag leaders meant said own_said means local_is leads bridge_is asks = record {
    leaders = leaders;
    said = said;
    meant = meant;
    means = means;
    local_is = local_is;
    own = own;
    own_said = own_said;
    leads = leads;
    bridge_is = bridge_is;
    remote = asks.remote;
    remote_said = asks.remote_said;
    reaches = asks.reaches;
    tagged = asks.tagged;
  }

  -- ---- the calls of members

  pub own_none : (members : List Member) → AreOwnCalls ranks views members []
  own_none members = record { each = λ place here e. absurd (cc) }

  own_of : (member : Member) (o : Option Here) (here : Here) → Some here ≡ o → IfSome o (IsOwnCall ranks views member) → IsOwnCall ranks views member here
  own_of member o here same own = subst (λ (p : Option Here). IfSome p (IsOwnCall ranks views member)) (sym same) own

  pub own_there : (member : Member) (at : ℕ) (o : Option Here) → o ≡ own_here ranks views member at → IfSome o (IsOwnCall ranks views member)
  own_there member at None e = tt
  own_there member at (Some here) e = (at, sym e)

  -- the call of one member more
  pub own_more : (members : List Member) (all : List (Option Here)) (i : ℕ) (member : Member) (here : Option Here) → AreOwnCalls ranks views members all → length all ≡ i
      → slice_get members i ≡ Some member → IfSome here (IsOwnCall ranks views member) → AreOwnCalls ranks views members (all ++ here ∷ [])
  own_more members all i member here calls counted there own = record {
    each = λ place h e. elim (get_more all here place (Some h) e) [
      | inl before ↦ calls.each place h before
      | inr is ↦ (member, ap (slice_get members) (is.0 ∙ counted) ∙ there, own_of member here h is.1 own)
    ];
  }

  -- ---- joins

  inter_is : (members : List Member) (remote_size : ℕ) (inter : Made) → Derives ranks views (intercomm members remote_size inter.order) → inter.members.items ≡ members
      → inter.remote_size ≡ remote_size → inter.ranks.items ≡ ranks_in inter.members.items → IsDerivedInter ranks views inter
  inter_is members remote_size inter derives same remote same_ranks = record {
    derives = subst (λ (n : ℕ). Derives ranks views (intercomm inter.members.items n inter.order)) (sym remote)
        (subst (λ (l : List Member). Derives ranks views (intercomm l remote_size inter.order)) (sym same) derives);
    same_ranks = same_ranks;
  }

  module _ (stand : List (Vec HandleState Global)) (comms : List Made) (derived : AreDerived ranks views comms) (members : AreMembers comms stand) where
    -- the handle that stands for a derived communicator
    by_handle : (rank place : ℕ) (o : Option ℕ) → option_and_then (standing_at stand rank) o ≡ Some (standings.Derived place)
        → (handle : ℕ) × (o ≡ Some handle) × StandsFor stand rank handle place
    by_handle rank place None e = absurd (cc)
    by_handle rank place (Some handle) e = (handle, refl, e)

    member_in : (rank handle place : ℕ) (comm : Made) → StandsFor stand rank handle place → slice_get comms place ≡ Some comm → IsMember comm.members.items rank handle
    member_in rank handle place comm stands here =
        let is : IsMemberOf comms place rank handle = members.each rank handle place stands in
        subst (λ (c : Made). IsMember c.members.items rank handle) (same_Some is.comm comm (sym is.here ∙ here)) is.member

    rank_in : (place own rank : ℕ) (comm : Made) → slice_get comms place ≡ Some comm → rank_at comms place own ≡ Some rank → slice_get (ranks_in comm.members.items) own ≡ Some rank
    rank_in place own rank comm here e =
        ap (λ (l : List ℕ). slice_get l own) (sym (derived.each place comm here).same_ranks)
        ∙ sym (ap (option_and_then (λ (c : Made). slice_get c.ranks.items own)) here) ∙ e

    offers_of : (offer : Offer) (group bridge : Made) → IsOffer ranks views stand comms offer → slice_get comms offer.local ≡ Some group → slice_get comms offer.bridge ≡ Some bridge
        → Offers ranks views group.members.items bridge.members.items offer.rank offer.other offer.tag
    offers_of offer group bridge is group_here bridge_here =
        let local = by_handle offer.rank offer.local is.meant.comm is.local_is in
        let over = by_handle offer.rank offer.bridge is.meant.bridge is.bridge_is in
        record {
          at = offer.at;
          leaders = is.leaders;
          said = is.said;
          handle = local.0;
          named = ap (option_and_then (λ (m : Meant). m.comm)) is.means ∙ local.1;
          is_member = member_in offer.rank local.0 offer.local group local.2 group_here;
          own = is.own;
          own_said = is.own_said;
          leads = rank_in offer.local is.own offer.rank group group_here is.leads;
          bridge_handle = over.0;
          bridge_is = ap (option_and_then (λ (m : Meant). m.bridge)) is.means ∙ over.1;
          bridge_member = member_in offer.rank over.0 offer.bridge bridge over.2 bridge_here;
          remote = is.remote;
          remote_said = is.remote_said;
          reaches = rank_in offer.bridge is.remote offer.other bridge bridge_here is.reaches;
          tagged = is.tagged;
        }

    -- the communicator of both leaders
    bridge_of : (offer : Offer) → IsOffer ranks views stand comms offer → (bridge : Made) × (slice_get comms offer.bridge ≡ Some bridge)
    bridge_of offer is =
        let over = by_handle offer.rank offer.bridge is.meant.bridge is.bridge_is in
        let member : IsMemberOf comms offer.bridge offer.rank over.0 = members.each offer.rank over.0 offer.bridge over.2 in
        (member.comm, member.here)

    alike_of : (offer : Offer) (is : IsOffer ranks views stand comms offer) (all : List (Option Here))
        → SayAlike ranks offer all → All (SaysLeader ranks is.own) all
    alike_of offer is all say =
        subst (λ (o : Option ℕ). IfSome o (λ l. All (SaysLeader ranks l) all)) (ap (option_and_then (λ (l : Leaders). l.own)) is.said ∙ is.own_said) say

    pub joined_derives : (one other : Offer) (first second inter : Made) (of_first of_second all : List (Option Here)) (both : List Member)
        → IsOffer ranks views stand comms one → IsOffer ranks views stand comms other → Answer one other
        → slice_get comms one.local ≡ Some first → slice_get comms other.local ≡ Some second
        → AreOwnCalls ranks views first.members.items of_first → length of_first ≡ length first.members.items → AreOwnCalls ranks views second.members.items of_second
        → all ≡ of_first ++ of_second
        → SayAlike ranks one of_first → SayAlike ranks other of_second
        → intersection_of first.ranks.items second.ranks.items ≡ [] → IsOneMaking functions.IntercommCreate all
        → both ≡ first.members.items ++ second.members.items → IsInterOf both all (length second.members.items) false inter → IsDerivedInter ranks views inter
    joined_derives one other first second inter of_first of_second all both is_one is_other answer first_here second_here first_calls first_each second_calls all_is first_say second_say apart making both_is of =
        let bridge = bridge_of one is_one in
        let over : slice_get comms other.bridge ≡ Some bridge.0 = ap (slice_get comms) (sym answer.bridge) ∙ bridge.1 in
        let d1 : IsDerivedComm ranks views first = derived.each one.local first first_here in
        let d2 : IsDerivedComm ranks views second = derived.each other.local second second_here in
        let d3 : IsDerivedComm ranks views bridge.0 = derived.each one.bridge bridge.0 bridge.1 in
        let groups : List Member = first.members.items ++ second.members.items in
        let made : IsInterOf groups all (length second.members.items) false inter =
        subst (λ (l : List Member). IsInterOf l all (length second.members.items) false inter) both_is of in
        let offer : Offers ranks views first.members.items bridge.0.members.items one.rank other.rank one.tag =
        subst (λ (r : ℕ). Offers ranks views first.members.items bridge.0.members.items one.rank r one.tag) answer.there (offers_of one first bridge.0 is_one first_here bridge.1) in
        let back : Offers ranks views second.members.items bridge.0.members.items other.rank one.rank one.tag =
        subst (λ (t : ℤ). Offers ranks views second.members.items bridge.0.members.items other.rank one.rank t) (sym answer.tag)
        (subst (λ (r : ℕ). Offers ranks views second.members.items bridge.0.members.items other.rank r other.tag) answer.back (offers_of other second bridge.0 is_other second_here over)) in
        let disjoint : intersection_of (ranks_in first.members.items) (ranks_in second.members.items) ≡ [] =
        subst (λ (l : List ℕ). intersection_of (ranks_in first.members.items) l ≡ []) d2.same_ranks
        (subst (λ (l : List ℕ). intersection_of l second.ranks.items ≡ []) d1.same_ranks apart) in
        let joining : IsJoining ranks views first.members.items second.members.items bridge.0.members.items all = record {
          of_first = of_first;
          of_second = of_second;
          both = all_is;
          first_each = first_each;
          first_calls = first_calls;
          second_calls = second_calls;
          first_leader = is_one.own;
          second_leader = is_other.own;
          first_alike = alike_of one is_one of_first first_say;
          second_alike = alike_of other is_other of_second second_say;
          apart = disjoint;
          one = making;
          given = made.given;
          leader = one.rank;
          other = other.rank;
          tag = one.tag;
          offer = offer;
          answer = back;
        } in
        inter_is (members_at groups all (whole (length groups)).places) (length second.members.items) inter
        (joined first.members.items second.members.items bridge.0.members.items (dims_of first) (dims_of second) (dims_of bridge.0) first.order second.order bridge.0.order inter.order all
        d1.derives d2.derives d3.derives joining made.order)
        made.chosen made.remote made.same_ranks

  -- ---- duplicates

  pub copy_derives : (inter copy : Made) (k : ℕ) (all : List (Option Here)) (function : MadeBy) → IsDerivedInter ranks views inter → all ≡ kth_calls ranks views k inter.members.items
      → IsOneMaking function all → is_copy function ≡ true → IsInterOf inter.members.items all inter.remote_size (gives_later function) copy → IsDerivedInter ranks views copy
  copy_derives inter copy k all function derived calls making is of =
      let members : List Member = inter.members.items in
      let P : List (Option Here) → Type 0 = λ l. IsOneMaking function l → AreGiven (gives_later function) l (whole (length members) ∷ []) → IsMakingOrder (whole (length members)).places l copy.order
      → Derives ranks views (intercomm (members_at members l (whole (length members)).places) inter.remote_size copy.order) in
      let step : P (kth_calls ranks views k members) = λ one given order. copied members inter.remote_size inter.order copy.order k function derived.derives one is given order in
      inter_is (members_at members all (whole (length members)).places) inter.remote_size copy (subst P (sym calls) step making of.given of.order) of.chosen of.remote of.same_ranks

  -- ---- merges

  pub merge_derives : (inter : Made) (all : List (Option Here)) (size : ℕ) (one other : Bool) (outcome : Outcome) (made : OfInter) → IsDerivedInter ranks views inter
      → AreOwnCalls ranks views inter.members.items all → size ≡ first_size inter.members.items inter.remote_size → IsOneMaking functions.IntercommMerge all
      → is_some (first_of (take size all)) ≡ true → is_some (first_of (drop size all)) ≡ true → All (SaysHigh ranks one) (take size all) → All (SaysHigh ranks other) (drop size all)
      → ((parts : List Selection) → parts_in outcome ≡ Some parts → IsMergedOf views all size one other parts) → IfMerged (IsMadeByMerge inter.members.items all outcome) made
      → MakesOfInter ranks views made
  merge_derives inter all size one other outcome (made_of.Inter copy) derived calls is making first_there second_there first_say second_say parts of = absurd of
  merge_derives inter all size one other outcome made_of.Untold derived calls is making first_there second_there first_say second_say parts of = tt
  merge_derives inter all size one other outcome made_of.Unsound derived calls is making first_there second_there first_say second_say parts of = tt
  merge_derives inter all size one other outcome (made_of.Comm comm) derived calls is making first_there second_there first_say second_say parts of =
      let members : List Member = inter.members.items in
      let merge : IsMerge ranks views members size all of.part = record {
        calls = calls;
        one = making;
        first_there = first_there;
        second_there = second_there;
        first_high = one;
        second_high = other;
        first_alike = first_say;
        second_alike = second_say;
        parts = of.parts;
        made = parts of.parts of.made;
        is_part = of.first;
        given = of.given;
      } in
      let merge_there : IsMerge ranks views members (first_size members inter.remote_size) all of.part = subst (λ (n : ℕ). IsMerge ranks views members n all of.part) is merge in
      comm_is ranks views (members_at members all of.part.places) of.part.dims comm.order comm
      (merged members inter.remote_size inter.order comm.order all of.part derived.derives merge_there of.is_made.order)
      of.is_made.chosen of.is_made.dims refl of.is_made.same_ranks of.is_made.one_group
