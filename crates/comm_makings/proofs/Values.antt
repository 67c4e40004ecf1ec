-- The groups that the calls of ranks give, as they become known.
use Rattle.std.proofs.Common.{◌≡◌, ℕ, ◌<◌, ◌-◌, true, false, not, nat_le, Bool, List, [], Option, Some, None, Vec, length, get_or, option_map, option_and_then, set, ap, ◌∙◌, sym, subst, inl, inr, refl}
use Rattle.std.specs.List.{slice_get}
use Rattle.std.specs.declared.alloc.Global.{Global}
use Rattle.std.proofs.lemmas.List.{length-map}
use Rattle.std.proofs.lemmas.Option.{same_Some, slice_get-get_or}
use Rattle.comm_makings.specs.Derives.{Derives, comm_meant, empty, group_call_at, is_of_comm, is_of_remote, of_comm, of_one, of_remote, of_side, of_two, ranks_in, ranks_of}
use Rattle.comm_makings.specs.Groups.{IsGroupOf, IsListed, IsMadeOfOne, IsMadeOfTwo, IsValueOf, group_of_side, made_of_one, made_of_two, ranks_at, side_ranks, unlisted}
use Rattle.comm_makings.specs.Groups as found
use Rattle.comm_makings.specs.Here.{meant_at}
use Rattle.comm_makings.specs.Offers.{group_of}
use Rattle.comm_makings.specs.Intercomms.{first_size, side}
use Rattle.comm_makings.specs.State.{AreAllDerivedGroups, AreDerived, AreDerivedGroups, AreInterMembers, AreInters, AreMembers, AreMembersIn, IsDerivedComm, IsDerivedGroup, IsDerivedInter, dims_of}
use Rattle.comm_makings.specs.declared.calls.GroupCall.{GroupCall}
use Rattle.comm_makings.specs.declared.calls.GroupCall.TheVariants as calls
use Rattle.comm_makings.specs.declared.calls.RankCalls.{RankCalls}
use Rattle.comm_makings.specs.declared.group_value.GroupValue.{GroupValue}
use Rattle.comm_makings.specs.declared.group_value.GroupValue.TheVariants as values
use Rattle.comm_makings.specs.declared.handle.GroupAt.{GroupAt}
use Rattle.comm_makings.specs.declared.handle.GroupAt.TheVariants as groups
use Rattle.comm_makings.specs.declared.handle.Meant.{Meant}
use Rattle.comm_makings.specs.declared.here.Here.{Here}
use Rattle.comm_makings.specs.declared.state.Made.{Made}
use Rattle.comm_makings.specs.declared.state.Member.{Member}
use Rattle.comm_makings.specs.declared.state.HandleState.{HandleState}
use Rattle.comm_makings.specs.declared.state.HandleState.TheVariants as standings
use Rattle.comm_makings.specs.declared.view.RankView.{RankView}
use Rattle.comm_makings.proofs.Lists.{get_set}

-- the handles of one rank
pub members_in : (comms inters : List Made) (rows : List (Vec HandleState Global)) (rank : ℕ) (row : Vec HandleState Global) → AreMembers comms rows → AreInterMembers inters rows
    → rank < length rows → row ≡ get_or rows rank row → AreMembersIn comms inters rank row.items
members_in comms inters rows rank row members sided below is =
    let here : slice_get rows rank ≡ Some row = slice_get-get_or rows rank row below ∙ ap Some (sym is) in
    record {
      each = λ handle place e. members.each rank handle place (ap (option_and_then (λ (r : Vec HandleState Global). slice_get r.items handle)) here ∙ e);
      sides = λ handle place second e. sided.each rank handle place second (ap (option_and_then (λ (r : Vec HandleState Global). slice_get r.items handle)) here ∙ e);
    }

module _ (ranks : List RankCalls) (views : List RankView) where
  -- the ranks of a group that is known
  value_derives : (comms : List Made) (rank at : ℕ) (value : GroupValue) (list : List ℕ) → IsDerivedGroup ranks views comms rank at value
      → found.ranks_of comms value ≡ Some list → Derives ranks views (ranks_of rank (groups.Given at) list)
  value_derives comms rank at values.Waits list d e = absurd (cc)
  value_derives comms rank at values.Unknown list d e = absurd (cc)
  value_derives comms rank at (values.Whole place) list d e =
      let same : Some d.0.ranks.items ≡ Some list = sym (ap (option_map (λ (c : Made). c.ranks.items)) d.1) ∙ e in
      let is : d.0.ranks.items ≡ list = cc in
      subst (λ (l : List ℕ). Derives ranks views (ranks_of rank (groups.Given at) l)) is d.2
  value_derives comms rank at (values.Listed items) list d e =
      let is : items.items ≡ list = cc in
      subst (λ (l : List ℕ). Derives ranks views (ranks_of rank (groups.Given at) l)) is d

  given_derives : (comms : List Made) (rank at : ℕ) (row : List GroupValue) (list : List ℕ) → AreDerivedGroups ranks views comms rank row
      → (o : Option GroupValue) → slice_get row at ≡ o → option_and_then (found.ranks_of comms) o ≡ Some list
      → Derives ranks views (ranks_of rank (groups.Given at) list)
  given_derives comms rank at row list all None here e = absurd (cc)
  given_derives comms rank at row list all (Some value) here e = value_derives comms rank at value list (all.each at value here) e

  -- a group that a call of a rank names
  pub named_derives : (comms : List Made) (rank : ℕ) (row : List GroupValue) → AreDerivedGroups ranks views comms rank row
      → (group : GroupAt) (list : List ℕ) → ranks_at comms row group ≡ Some list → Derives ranks views (ranks_of rank group list)
  named_derives comms rank row all groups.Empty list e =
      let is : [] ≡ list = cc in subst (λ (l : List ℕ). Derives ranks views (ranks_of rank groups.Empty l)) is (empty rank)
  named_derives comms rank row all groups.Unknown list e = absurd (cc)
  named_derives comms rank row all (groups.Given at) list e = given_derives comms rank at row list all (slice_get row at) refl e

  -- what is listed, where it derives
  listed : (comms : List Made) (rank at : ℕ) (o : Option (List ℕ)) (value : GroupValue) → IsListed o value
      → ((list : List ℕ) → o ≡ Some list → Derives ranks views (ranks_of rank (groups.Given at) list))
      → IsDerivedGroup ranks views comms rank at value
  listed comms rank at None value e derives = subst (IsDerivedGroup ranks views comms rank at) (sym e) tt
  listed comms rank at (Some list) values.Waits e derives = tt
  listed comms rank at (Some list) values.Unknown e derives = tt
  listed comms rank at (Some list) (values.Whole place) e derives = absurd e
  listed comms rank at (Some list) (values.Listed items) e derives = derives items.items (ap Some (sym e))

  unknown : (comms : List Made) (rank at : ℕ) (waits : Bool) (value : GroupValue) → value ≡ unlisted waits → IsDerivedGroup ranks views comms rank at value
  unknown comms rank at true value e = subst (IsDerivedGroup ranks views comms rank at) (sym e) tt
  unknown comms rank at false value e = subst (IsDerivedGroup ranks views comms rank at) (sym e) tt

  module _ (comms : List Made) (rank at : ℕ) (row : List GroupValue) (call : GroupCall) (meant : Meant)
      (called : group_call_at ranks rank at ≡ Some call) (means : meant_at views rank at ≡ Some meant)
      (all : AreDerivedGroups ranks views comms rank row) where
    one : (first : Option (List ℕ)) (waits : Bool) (value : GroupValue) → ranks_at comms row meant.group ≡ first
        → IsMadeOfOne call first waits value → IsDerivedGroup ranks views comms rank at value
    one None waits value e built = unknown comms rank at waits value built
    one (Some others) waits value e built =
        listed comms rank at (made_of_one call others) value built
        (λ list is. of_one rank at call meant.group others list called (ap (option_map (λ (m : Meant). m.group)) means)
        (named_derives comms rank row all meant.group others e) is)

    two : (first second : Option (List ℕ)) (waits : Bool) (value : GroupValue) → ranks_at comms row meant.group ≡ first → ranks_at comms row meant.second ≡ second
        → IsMadeOfTwo call first second waits value → IsDerivedGroup ranks views comms rank at value
    two None second waits value e f built = unknown comms rank at waits value built
    two (Some ones) None waits value e f built = unknown comms rank at waits value built
    two (Some ones) (Some others) waits value e f built =
        listed comms rank at (made_of_two call ones others) value built
        (λ list is. of_two rank at call meant.group meant.second ones others list called (ap (option_map (λ (m : Meant). m.group)) means)
        (ap (option_map (λ (m : Meant). m.second)) means)
        (named_derives comms rank row all meant.group ones e) (named_derives comms rank row all meant.second others f) is)

  -- the ranks of a group of an intercommunicator
  side_same : (inter : Made) (second : Bool) → inter.ranks.items ≡ ranks_in inter.members.items → length inter.ranks.items ≡ length inter.members.items
      → side_ranks second inter ≡ side second (first_size inter.members.items inter.remote_size) (ranks_in inter.members.items)
  side_same inter second same long =
      ap (λ (n : ℕ). side second (n - inter.remote_size) inter.ranks.items) long
      ∙ ap (λ (l : List ℕ). side second (first_size inter.members.items inter.remote_size) l) same

  side_there : (inters : List Made) (place : ℕ) (inter : Made) (second : Bool) → slice_get inters place ≡ Some inter → group_of_side inters place second ≡ Some (side_ranks second inter)
  side_there inters place inter second here = ap (option_map (side_ranks second)) here

  unknown_is : (comms : List Made) (rank at : ℕ) (value : GroupValue) → value ≡ values.Unknown → IsDerivedGroup ranks views comms rank at value
  unknown_is comms rank at value e = subst (IsDerivedGroup ranks views comms rank at) (sym e) tt

  waits_is : (comms : List Made) (rank at : ℕ) (value : GroupValue) → value ≡ values.Waits → IsDerivedGroup ranks views comms rank at value
  waits_is comms rank at value e = subst (IsDerivedGroup ranks views comms rank at) (sym e) tt

  module _ (comms inters : List Made) (rank at : ℕ) (row : List HandleState) (call : GroupCall) (called : group_call_at ranks rank at ≡ Some call)
      (all : AreDerived ranks views comms) (joined : AreInters ranks views inters) (members : AreMembersIn comms inters rank row) where
    -- the group of a communicator that has one
    of_whole : is_of_comm call → (handle place : ℕ) → comm_meant views rank at ≡ Some handle → slice_get row handle ≡ Some (standings.Derived place)
        → IsDerivedGroup ranks views comms rank at (values.Whole place)
    of_whole is handle place means e =
        let member = members.each handle place e in
        let comm : Made = member.comm in
        let derived : IsDerivedComm ranks views comm = all.each place comm member.here in
        let derives : Derives ranks views (ranks_of rank (groups.Given at) (ranks_in comm.members.items)) =
        of_comm comm.members.items (dims_of comm) comm.order rank at handle call derived.derives member.member.0 member.member.1 called is means in
        (comm, member.here, subst (λ (l : List ℕ). Derives ranks views (ranks_of rank (groups.Given at) l)) (sym derived.same_ranks) derives)

    -- the group of an intercommunicator in which the rank is
    of_own : is_of_comm call → (handle place : ℕ) (second : Bool) → comm_meant views rank at ≡ Some handle → slice_get row handle ≡ Some (standings.Inter place second)
        → (value : GroupValue) → IsListed (group_of_side inters place second) value → IsDerivedGroup ranks views comms rank at value
    of_own is handle place second means e value listed_so =
        let sided = members.sides handle place second e in
        let inter : Made = sided.inter in
        let derived : IsDerivedInter ranks views inter = joined.each place inter sided.here in
        let size = first_size inter.members.items inter.remote_size in
        let derives : Derives ranks views (ranks_of rank (groups.Given at) (side (nat_le size sided.member.0) size (ranks_in inter.members.items))) =
        of_side inter.members.items inter.remote_size inter.order rank at handle call derived.derives sided.member.0 sided.member.1 called is means in
        let long : length inter.ranks.items ≡ length inter.members.items = ap (λ (l : List ℕ). length l) derived.same_ranks ∙ length-map inter.members.items (λ (m : Member). m.rank) in
        let same = side_same inter second derived.same_ranks long in
        let here : Derives ranks views (ranks_of rank (groups.Given at) (side_ranks second inter)) =
        subst (λ (l : List ℕ). Derives ranks views (ranks_of rank (groups.Given at) l)) (sym same)
        (subst (λ (b : Bool). Derives ranks views (ranks_of rank (groups.Given at) (side b size (ranks_in inter.members.items)))) sided.member.2 derives) in
        listed comms rank at (group_of_side inters place second) value listed_so
        (λ list is_list. let found : side_ranks second inter ≡ list = same_Some (side_ranks second inter) list (sym (side_there inters place inter second sided.here) ∙ is_list) in
        subst (λ (l : List ℕ). Derives ranks views (ranks_of rank (groups.Given at) l)) found here)

    -- the other group
    of_other : is_of_remote call → (handle place : ℕ) (second : Bool) → comm_meant views rank at ≡ Some handle → slice_get row handle ≡ Some (standings.Inter place second)
        → (value : GroupValue) → IsListed (group_of_side inters place (not second)) value → IsDerivedGroup ranks views comms rank at value
    of_other is handle place second means e value listed_so =
        let sided = members.sides handle place second e in
        let inter : Made = sided.inter in
        let derived : IsDerivedInter ranks views inter = joined.each place inter sided.here in
        let size = first_size inter.members.items inter.remote_size in
        let derives : Derives ranks views (ranks_of rank (groups.Given at) (side (not (nat_le size sided.member.0)) size (ranks_in inter.members.items))) =
        of_remote inter.members.items inter.remote_size inter.order rank at handle call derived.derives sided.member.0 sided.member.1 called is means in
        let long : length inter.ranks.items ≡ length inter.members.items = ap (λ (l : List ℕ). length l) derived.same_ranks ∙ length-map inter.members.items (λ (m : Member). m.rank) in
        let same = side_same inter (not second) derived.same_ranks long in
        let here : Derives ranks views (ranks_of rank (groups.Given at) (side_ranks (not second) inter)) =
        subst (λ (l : List ℕ). Derives ranks views (ranks_of rank (groups.Given at) l)) (sym same)
        (subst (λ (b : Bool). Derives ranks views (ranks_of rank (groups.Given at) (side (not b) size (ranks_in inter.members.items)))) sided.member.2 derives) in
        listed comms rank at (group_of_side inters place (not second)) value listed_so
        (λ list is_list. let found : side_ranks (not second) inter ≡ list = same_Some (side_ranks (not second) inter) list (sym (side_there inters place inter (not second) sided.here) ∙ is_list) in
        subst (λ (l : List ℕ). Derives ranks views (ranks_of rank (groups.Given at) l)) found here)

    -- the group of a communicator, by how its handle stands
    of_standing : is_of_comm call → (handle : Option ℕ) → comm_meant views rank at ≡ handle → (standing : Option HandleState) → option_and_then (slice_get row) handle ≡ standing
        → (value : GroupValue) → IsGroupOf inters false standing value → IsDerivedGroup ranks views comms rank at value
    of_standing is handle means None e value f = unknown_is comms rank at value f
    of_standing is handle means (Some standings.Open) e value f = waits_is comms rank at value f
    of_standing is handle means (Some (standings.Left why)) e value f = unknown_is comms rank at value f
    of_standing is None means (Some (standings.Derived place)) e value f = absurd (cc)
    of_standing is (Some handle) means (Some (standings.Derived place)) e value f =
        subst (IsDerivedGroup ranks views comms rank at) (sym f) (of_whole is handle place means e)
    of_standing is None means (Some (standings.Inter place second)) e value f = absurd (cc)
    of_standing is (Some handle) means (Some (standings.Inter place second)) e value f = of_own is handle place second means e value f

    -- the remote group of one, by how its handle stands
    of_remote_standing : is_of_remote call → (handle : Option ℕ) → comm_meant views rank at ≡ handle → (standing : Option HandleState) → option_and_then (slice_get row) handle ≡ standing
        → (value : GroupValue) → IsGroupOf inters true standing value → IsDerivedGroup ranks views comms rank at value
    of_remote_standing is handle means None e value f = unknown_is comms rank at value f
    of_remote_standing is handle means (Some standings.Open) e value f = waits_is comms rank at value f
    of_remote_standing is handle means (Some (standings.Left why)) e value f = unknown_is comms rank at value f
    of_remote_standing is handle means (Some (standings.Derived place)) e value f = unknown_is comms rank at value f
    of_remote_standing is None means (Some (standings.Inter place second)) e value f = absurd (cc)
    of_remote_standing is (Some handle) means (Some (standings.Inter place second)) e value f = of_other is handle place second means e value f

  -- what a call of a rank gives, by what is known before it
  pub given_value : (comms inters : List Made) (rank at : ℕ) (standings : List HandleState) (row : List GroupValue) (call : GroupCall) (meant : Meant)
      → group_call_at ranks rank at ≡ Some call → meant_at views rank at ≡ Some meant
      → AreDerived ranks views comms → AreInters ranks views inters → AreMembersIn comms inters rank standings → AreDerivedGroups ranks views comms rank row
      → (value : GroupValue) → IsValueOf inters call (option_and_then (slice_get standings) meant.comm) (ranks_at comms row meant.group) (ranks_at comms row meant.second) value
      → IsDerivedGroup ranks views comms rank at value
  given_value comms inters rank at row values (calls.OfComm comm) meant called means all joined members derived value is =
      of_standing comms inters rank at row (calls.OfComm comm) called all joined members tt meant.comm (ap (option_and_then (λ (m : Meant). m.comm)) means) (option_and_then (slice_get row) meant.comm) refl value is
  given_value comms inters rank at row values (calls.OfRemote comm) meant called means all joined members derived value is =
      of_remote_standing comms inters rank at row (calls.OfRemote comm) called all joined members tt meant.comm (ap (option_and_then (λ (m : Meant). m.comm)) means) (option_and_then (slice_get row) meant.comm) refl value is
  given_value comms inters rank at row values calls.Unread meant called means all joined members derived value is = subst (IsDerivedGroup ranks views comms rank at) (sym is) tt
  given_value comms inters rank at row values (calls.Union a b) meant called means all joined members derived value is =
      two comms rank at values (calls.Union a b) meant called means derived (ranks_at comms values meant.group) (ranks_at comms values meant.second) is.0 value refl refl is.1
  given_value comms inters rank at row values (calls.Intersection a b) meant called means all joined members derived value is =
      two comms rank at values (calls.Intersection a b) meant called means derived (ranks_at comms values meant.group) (ranks_at comms values meant.second) is.0 value refl refl is.1
  given_value comms inters rank at row values (calls.Difference a b) meant called means all joined members derived value is =
      two comms rank at values (calls.Difference a b) meant called means derived (ranks_at comms values meant.group) (ranks_at comms values meant.second) is.0 value refl refl is.1
  given_value comms inters rank at row values (calls.Incl group list) meant called means all joined members derived value is =
      one comms rank at values (calls.Incl group list) meant called means derived (ranks_at comms values meant.group) is.0 value refl is.1
  given_value comms inters rank at row values (calls.Excl group list) meant called means all joined members derived value is =
      one comms rank at values (calls.Excl group list) meant called means derived (ranks_at comms values meant.group) is.0 value refl is.1
  given_value comms inters rank at row values (calls.RangeIncl group list) meant called means all joined members derived value is =
      one comms rank at values (calls.RangeIncl group list) meant called means derived (ranks_at comms values meant.group) is.0 value refl is.1
  given_value comms inters rank at row values (calls.RangeExcl group list) meant called means all joined members derived value is =
      one comms rank at values (calls.RangeExcl group list) meant called means derived (ranks_at comms values meant.group) is.0 value refl is.1

  -- the group that a call names, where it is known
  call_group : (comms : List Made) (all : List (Vec GroupValue Global)) → AreAllDerivedGroups ranks views comms all → (here : Here) (list : List ℕ)
      → (o : Option (Vec GroupValue Global)) → slice_get all here.rank ≡ o → option_and_then (λ row. ranks_at comms row.items here.group) o ≡ Some list
      → Derives ranks views (ranks_of here.rank here.group list)
  call_group comms all derived here list None e f = absurd (cc)
  call_group comms all derived here list (Some row) e f = named_derives comms here.rank row.items (derived.each here.rank row e) here.group list f

  pub group_derives : (comms : List Made) (all : List (Vec GroupValue Global)) → AreAllDerivedGroups ranks views comms all → (here : Here) (list : List ℕ)
      → group_of all comms here ≡ Some list → Derives ranks views (ranks_of here.rank here.group list)
  group_derives comms all derived here list e = call_group comms all derived here list (slice_get all here.rank) refl e

  -- what one call gives
  pub group_set : (comms : List Made) (rank at : ℕ) (row : List GroupValue) (value : GroupValue) → AreDerivedGroups ranks views comms rank row
      → IsDerivedGroup ranks views comms rank at value → AreDerivedGroups ranks views comms rank (set row at value)
  group_set comms rank at row value groups derived = record {
    each = λ k now e. elim (get_set row at value k now e) [
      | inl before ↦ groups.each k now before
      | inr is ↦ subst (λ (i : ℕ). IsDerivedGroup ranks views comms rank i now) (sym is.0)
          (subst (λ (v : GroupValue). IsDerivedGroup ranks views comms rank at v) (sym is.1) derived)
    ];
  }

  pub groups_at : (comms : List Made) (rows : List (Vec GroupValue Global)) (rank : ℕ) (row : Vec GroupValue Global) → AreAllDerivedGroups ranks views comms rows
      → rank < length rows → row ≡ get_or rows rank row → AreDerivedGroups ranks views comms rank row.items
  groups_at comms rows rank row all below is = all.each rank row (slice_get-get_or rows rank row below ∙ ap Some (sym is))

  -- what the calls of one rank give
  pub groups_set : (comms : List Made) (rows : List (Vec GroupValue Global)) (rank : ℕ) (row : Vec GroupValue Global) → AreAllDerivedGroups ranks views comms rows
      → AreDerivedGroups ranks views comms rank row.items → AreAllDerivedGroups ranks views comms (set rows rank row)
  groups_set comms rows rank row all groups = record {
    each = λ r now e. elim (get_set rows rank row r now e) [
      | inl before ↦ all.each r now before
      | inr is ↦ subst (λ (i : ℕ). AreDerivedGroups ranks views comms i now.items) (sym is.0)
          (subst (λ (v : Vec GroupValue Global). AreDerivedGroups ranks views comms rank v.items) (sym is.1) groups)
    ];
  }
