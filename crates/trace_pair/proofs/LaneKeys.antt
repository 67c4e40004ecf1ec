-- Lanes by their keys: as a receive goes, and as a message asks for them.
use Rattle.std.proofs.Common.{◌≡◌, ℕ, Bool, true, false, ◌&&◌, Option, Some, None, sym, refl, ◌∙◌, ap, cond, subst}
use Rattle.std.specs.BTreeMap.{BTreeMap, WritesThrough, get}
use Rattle.std.specs.BTreeSet.{BTreeSet, contains}
use Rattle.std.specs.List.{filter}
use Rattle.std.specs.Option.{IsSome}
use Rattle.std.specs.Ordering.{is_eq}
use Rattle.mpi_model.specs.declared.message.Message.{Message}
use Rattle.mpi_model.specs.declared.message.Receive.{Receive}
use Rattle.mpi_model.specs.Fit.{admits, envelopes_fit}
use Rattle.trace_ops.specs.Order.{Has}
use Rattle.trace_pair.specs.Ends.{IsLastAmong}
use Rattle.trace_pair.specs.Groups.{has, holds, members}
use Rattle.trace_pair.specs.KeyOrders.{ReceiveKey, receive_cmp, receive_key_cmp, receive_key_of}
use Rattle.trace_pair.specs.Lanes.{IsLatestOf}
use Rattle.trace_pair.specs.Queues.{AreGrouped, had, of_kind}
use Rattle.trace_pair.specs.declared.queues.Kinds.{Kinds}
use Rattle.trace_pair.proofs.Hiding.{kept_has, was_kept}
use Rattle.trace_pair.proofs.LaneSteps.{has_set, set_has}
use Rattle.trace_pair.proofs.Members.{has_member, stands}
use Rattle.trace_pair.proofs.Orders.{exact_receive_keys, exact_receives, receive_keys_total, receives_total}
use Rattle.trace_pair.proofs.PutAt.{at_equal, says_equal}
use Rattle.trace_pair.proofs.Queued.{fit_from, kind_none, receive_key_fits}

-- ---- a receive goes

gone : (x h : Bool) → h ≡ false → h ≡ cond x false h
gone true h e = e
gone false h e = refl

module _ (old new : BTreeMap ReceiveKey (BTreeSet Receive)) (key : ReceiveKey) (q : Receive) where
  -- what `get_mut` lent at the key, where s stood, is v now, which is s without the receive
  pub write_less : (s v : BTreeSet Receive) → Some s ≡ get receive_key_cmp old key → WritesThrough receive_key_cmp (receive_key_cmp key) old v new →
      ((d : Receive) → contains receive_cmp v d ≡ cond (is_eq (receive_cmp q d)) false (contains receive_cmp s d)) →
      (k : ReceiveKey) (d : Receive) → has receive_key_cmp receive_cmp new k d ≡ cond (is_eq (receive_key_cmp key k) && is_eq (receive_cmp q d)) false (has receive_key_cmp receive_cmp old k d)
  write_less s v stood written less k d =
      let puts = (written.3 (subst (λ (g : Option (BTreeSet Receive)). IsSome g) stood refl)).0 in
      ap (λ (g : Option (BTreeSet Receive)). holds receive_cmp g d) (puts k) ∙
      (elim (is_eq (receive_key_cmp key k)) as (λ b. is_eq (receive_key_cmp key k) ≡ b → holds receive_cmp (cond b (Some v) (get receive_key_cmp old k)) d ≡ cond (b && is_eq (receive_cmp q d)) false (has receive_key_cmp receive_cmp old k d)) [
        | true ↦ λ h. less d ∙ ap (λ (g : Option (BTreeSet Receive)). cond (is_eq (receive_cmp q d)) false (holds receive_cmp g d)) (stood ∙ at_equal receive_keys_total old key k (says_equal (receive_key_cmp key k) h))
        | false ↦ λ h. refl
      ] refl)

  -- nothing stood there
  pub none_less : None ≡ get receive_key_cmp old key → new ≡ old →
      (k : ReceiveKey) (d : Receive) → has receive_key_cmp receive_cmp new k d ≡ cond (is_eq (receive_key_cmp key k) && is_eq (receive_cmp q d)) false (has receive_key_cmp receive_cmp old k d)
  none_less none same k d =
      ap (λ (m : BTreeMap ReceiveKey (BTreeSet Receive)). has receive_key_cmp receive_cmp m k d) same ∙
      (elim (is_eq (receive_key_cmp key k)) as (λ b. is_eq (receive_key_cmp key k) ≡ b → has receive_key_cmp receive_cmp old k d ≡ cond (b && is_eq (receive_cmp q d)) false (has receive_key_cmp receive_cmp old k d)) [
        | true ↦ λ h. gone (is_eq (receive_cmp q d)) (has receive_key_cmp receive_cmp old k d)
            (sym (ap (λ (g : Option (BTreeSet Receive)). holds receive_cmp g d) (none ∙ at_equal receive_keys_total old key k (says_equal (receive_key_cmp key k) h))))
        | false ↦ λ h. refl
      ] refl)

-- ---- a message asks

module _ (kinds : Kinds) (lanes : BTreeMap ReceiveKey (BTreeSet Receive)) (inv : AreGrouped kinds lanes) (p : Receive → Bool) (m : Message) (source tag : Option ℕ) where
  -- a kind that no receive had
  pub none_of_kind : had kinds source tag ≡ false → IsLastAmong (filter p (members lanes)) m (of_kind source tag) None
  none_of_kind none = λ r i g f. kind_none kinds lanes inv m source tag none r (was_kept p (members lanes) r i).0 g f

  module _ (a : admits source m.from ≡ true) (b : admits tag m.tag ≡ true) where
    at_key : (r : Receive) → Has (members lanes) r → of_kind source tag r ≡ true → envelopes_fit m r ≡ true → has receive_key_cmp receive_cmp lanes (m.to, tag, source, m.comm) r ≡ true
    at_key r i g f =
        ap (λ (k : ReceiveKey). has receive_key_cmp receive_cmp lanes k r) (receive_key_fits m source tag r a b g f)
        ∙ stands receive_keys_total exact_receive_keys receives_total exact_receives receive_key_of lanes inv.ordered inv.placed r i

    -- no receive stands at the key
    pub none_at_key : None ≡ get receive_key_cmp lanes (m.to, tag, source, m.comm) → IsLastAmong (filter p (members lanes)) m (of_kind source tag) None
    none_at_key none = λ r i g f.
        let h = at_key r (was_kept p (members lanes) r i).0 g f in
        let n = ap (λ (o : Option (BTreeSet Receive)). holds receive_cmp o r) none in absurd (cc)

    module _ (s : BTreeSet Receive) (stood : Some s ≡ get receive_key_cmp lanes (m.to, tag, source, m.comm)) where
      in_lane : (r : Receive) → Has (filter p (members lanes)) r → of_kind source tag r ≡ true → envelopes_fit m r ≡ true → Has (filter p s.keys) r
      in_lane r i g f =
          let w = was_kept p (members lanes) r i in
          kept_has p s.keys r (has_set s.keys r (ap (λ (o : Option (BTreeSet Receive)). holds receive_cmp o r) stood ∙ at_key r w.0 g f)) w.1

      from_lane : (u : Receive) → Has (filter p s.keys) u → Has (filter p (members lanes)) u × (envelopes_fit m u ≡ true)
      from_lane u i =
          let w = was_kept p s.keys u i in
          let h = sym (ap (λ (o : Option (BTreeSet Receive)). holds receive_cmp o u) stood) ∙ set_has s.keys u w.0 in
          let k = inv.placed (m.to, tag, source, m.comm) u h in (
            kept_has p (members lanes) u (has_member receive_keys_total exact_receive_keys receives_total exact_receives lanes inv.ordered (m.to, tag, source, m.comm) u h) w.1,
            fit_from m u (ap (λ (x : ReceiveKey). x.3) k) (ap (λ (x : ReceiveKey). x.0) k)
                (ap (λ (x : ReceiveKey). admits x.2 m.from) (sym k) ∙ a) (ap (λ (x : ReceiveKey). admits x.1 m.tag) (sym k) ∙ b),
          )

      pub last_in_lane : (o : Option (Option ℕ)) → IsLatestOf (filter p s.keys) o → IsLastAmong (filter p (members lanes)) m (of_kind source tag) o
      last_in_lane None h = λ r i g f. h r (in_lane r i g f)
      last_in_lane (Some e) h =
          let w = from_lane h.0.0 h.0.1 in
          ((h.0.0, w.0, w.1, h.0.2), λ r i g f. h.1 r (in_lane r i g f))
