-- The k-th call of MPI_Comm_create_group of a member with one group and tag.
use Rattle.std.proofs.Common.{◌≡◌, ℕ, ℤ, ◌++◌, List, [], ◌∷◌, Some, Vec, length, map, ap, ◌∙◌, append-nil, append_assoc, sym, subst}
use Rattle.std.proofs.lemmas.List.{length-map, map-append}
use Rattle.std.specs.List.{slice_get}
use Rattle.std.specs.declared.alloc.Global.{Global}
use Rattle.comm_makings.specs.ByGroups.{AreNoted, IsNoted, IsOfTurn, IsRightOffer, key_of}
use Rattle.comm_makings.specs.Derives.{Derives, IsCaller, IsGroupCall, keys_more, keys_none, keys_of, kth, kth_with}
use Rattle.comm_makings.specs.GroupKeys.{GroupKey, key_with}
use Rattle.comm_makings.specs.State.{AreAllDerivedGroups}
use Rattle.comm_makings.specs.declared.by_groups.Offer.{Offer}
use Rattle.comm_makings.specs.declared.calls.RankCalls.{RankCalls}
use Rattle.comm_makings.specs.declared.group_value.GroupValue.{GroupValue}
use Rattle.comm_makings.specs.declared.here.Here.{Here}
use Rattle.comm_makings.specs.declared.state.Made.{Made}
use Rattle.comm_makings.specs.declared.state.Member.{Member}
use Rattle.comm_makings.specs.declared.view.RankView.{RankView}
use Rattle.comm_makings.proofs.Lists.{get_keep, get_last}
use Rattle.comm_makings.proofs.Values.{group_derives}

module _ (ranks : List RankCalls) (views : List RankView) (comms : List Made) (rows : List (Vec GroupValue Global)) (groups : AreAllDerivedGroups ranks views comms rows) where
  -- behind so many calls
  call_behind : (rank handle : ℕ) (before : List Offer) (offer : Offer) → IsNoted ranks views rows comms rank handle (length before) offer
      → IsGroupCall ranks views rank handle (length (map key_of before)) offer.tag offer.here
  call_behind rank handle before offer noted =
      subst (λ (n : ℕ). IsGroupCall ranks views rank handle n offer.tag offer.here) (sym (length-map before key_of)) noted.call

  keys_one : (rank handle : ℕ) (before : List Offer) (offer : Offer) → IsNoted ranks views rows comms rank handle (length before) offer
      → Derives ranks views (keys_of rank handle (map key_of before)) → Derives ranks views (keys_of rank handle (map key_of (before ++ offer ∷ [])))
  keys_one rank handle before offer noted derives =
      subst (λ (keys : List GroupKey). Derives ranks views (keys_of rank handle keys)) (sym (map-append key_of before (offer ∷ [])))
      (keys_more rank handle (map key_of before) (key_of offer) offer.here derives (call_behind rank handle before offer noted)
      (group_derives ranks views comms rows groups offer.here offer.ranks.now noted.group))

  -- what the calls name that are noted
  keys_join : (rank handle : ℕ) (done rest : List Offer) → AreNoted ranks views rows comms rank handle (done ++ rest) → Derives ranks views (keys_of rank handle (map key_of done))
      → Derives ranks views (keys_of rank handle (map key_of (done ++ rest)))
  keys_join rank handle done [] are derives =
      subst (λ (l : List Offer). Derives ranks views (keys_of rank handle (map key_of l))) (sym (append-nil done)) derives
  keys_join rank handle done (offer ∷ rest) are derives =
      let list : (done ++ offer ∷ []) ++ rest ≡ done ++ offer ∷ rest = append_assoc done (offer ∷ []) rest in
      let here : slice_get (done ++ offer ∷ rest) (length done) ≡ Some offer =
      ap (λ (l : List Offer). slice_get l (length done)) (sym list) ∙ get_keep (done ++ offer ∷ []) rest (length done) offer (get_last done offer) in
      subst (λ (l : List Offer). Derives ranks views (keys_of rank handle (map key_of l))) list
      (keys_join rank handle (done ++ offer ∷ []) rest (subst (AreNoted ranks views rows comms rank handle) (sym list) are)
      (keys_one rank handle done offer (are.each (length done) offer here) derives))

  kth_derives : (members : List Member) (offer : Offer) (is : IsRightOffer ranks views rows comms members offer)
      → Derives ranks views (kth_with is.member.rank is.handle (key_of offer) offer.turn offer.here)
  kth_derives members offer is =
      kth is.member.rank is.handle (map key_of is.before) (key_of offer) offer.turn offer.here
      (keys_join is.member.rank is.handle [] is.before is.noted_before (keys_none is.member.rank is.handle))
      (call_behind is.member.rank is.handle is.before offer is.noted)
      (group_derives ranks views comms rows groups offer.here offer.ranks.now is.noted.group) is.times

  -- the same, as a communicator's parts say it
  pub kth_of_turn : (members : List Member) (group : List ℕ) (tag : ℤ) (turn place : ℕ) (offer : Offer) (here : Here) (member : Member) (handle : ℕ)
      → IsRightOffer ranks views rows comms members offer → IsOfTurn group tag turn offer → offer.place ≡ place → offer.here ≡ here
      → slice_get members place ≡ Some member → member.handle ≡ Some handle → Derives ranks views (kth_with member.rank handle (key_with group tag) turn here)
  kth_of_turn members group tag turn place offer here member handle is of same_place same_here m h =
      let same_member : is.member ≡ member = (let both : Some is.member ≡ Some member = sym is.is_member ∙ ap (slice_get members) same_place ∙ m in cc) in
      let same_handle : is.handle ≡ handle = (let both : Some is.handle ≡ Some handle = sym is.named ∙ ap (λ (one : Member). one.handle) same_member ∙ h in cc) in
      subst (λ (one : Member). Derives ranks views (kth_with one.rank handle (key_with group tag) turn here)) same_member
      (subst (λ (n : ℕ). Derives ranks views (kth_with is.member.rank n (key_with group tag) turn here)) same_handle
      (subst (λ (g : List ℕ). Derives ranks views (kth_with is.member.rank is.handle (key_with g tag) turn here)) of.0
      (subst (λ (t : ℤ). Derives ranks views (kth_with is.member.rank is.handle (key_with offer.ranks.now t) turn here)) of.1
      (subst (λ (n : ℕ). Derives ranks views (kth_with is.member.rank is.handle (key_of offer) n here)) of.2
      (subst (λ (one : Here). Derives ranks views (kth_with is.member.rank is.handle (key_of offer) offer.turn one)) same_here
      (kth_derives members offer is))))))

module _ (ranks : List RankCalls) (views : List RankView) (comms : List Made) (rows : List (Vec GroupValue Global)) where
  pub caller_is : (members : List Member) (place : ℕ) (offer : Offer) → IsRightOffer ranks views rows comms members offer → offer.place ≡ place → IsCaller members place
  caller_is members place offer is same_place = record {
    member = is.member;
    is_member = ap (slice_get members) (sym same_place) ∙ is.is_member;
    handle = is.handle;
    named = is.named;
  }
