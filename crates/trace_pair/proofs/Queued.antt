-- Where the messages and receives of an index stand.
use Rattle.std.proofs.Common.{subst, cond, ◌≡◌, ℕ, Bool, true, false, ◌&&◌, ◌||◌, List, ⊎_elim, sym, refl, ◌∙◌, ap, arith, Option, Some, None, eqb}
use Rattle.std.specs.Prelude.{is_some, is_none, IfSome, IfNone}
use Rattle.std.specs.Ordering.{is_eq, is_gt}
use Rattle.std.specs.BTreeMap.{BTreeMap, IsOrdered}
use Rattle.std.specs.BTreeSet.{BTreeSet}
use Rattle.std.proofs.lemmas.Bool.Decides.{nat_tests}
use Rattle.mpi_model.specs.declared.message.Message.{Message}
use Rattle.mpi_model.specs.declared.message.Receive.{Receive}
use Rattle.mpi_model.specs.Fit.{envelopes_fit, admits}
use Rattle.trace_ops.specs.Order.{Has}
use Rattle.trace_pair.specs.Groups.{has, members}
use Rattle.trace_pair.specs.Indexed.{IsFirstMessage, IsFirstReceive}
use Rattle.trace_pair.specs.KeyOrders.{message_cmp, receive_cmp, Queue, queue_cmp, queue_of, Lane, lane_cmp, lane_of, ReceiveKey, receive_key_cmp, receive_key_of}
use Rattle.trace_pair.specs.Queues.{AreQueued, AreGrouped, alike, of_kind, had, kinds_with, IsBestAmong, NoneFits, SomeFits}
use Rattle.trace_pair.specs.declared.queues.Kinds.{Kinds}
use Rattle.trace_pair.proofs.Obeyed.{both, and_true, either}
use Rattle.trace_pair.proofs.Members.{has_member, same_members, stands, adds, drops, placed_more, placed_less}
use Rattle.trace_pair.proofs.Orders.{messages_total, receives_total, queues_total, receive_keys_total, exact_messages, exact_receives, exact_queues, exact_receive_keys, later_message, later_receive}

nat_says : (a b : ℕ) → eqb a b ≡ true → a ≡ b
nat_says a b h = grind (arith, nat_tests)

equal_nats : (a b : ℕ) → a ≡ b → eqb a b ≡ true
equal_nats a b e = grind (arith, nat_tests)

pub admits_says : (s x : ℕ) → admits (Some s) x ≡ true → s ≡ x
admits_says s x h = nat_says s x h

pub fit_parts : (m : Message) (q : Receive) → envelopes_fit m q ≡ true → (m.comm ≡ q.comm) × (m.to ≡ q.at) × (admits q.source m.from ≡ true) × (admits q.tag m.tag ≡ true)
fit_parts m q h =
    let a = eqb m.comm q.comm in let b = eqb m.to q.at in let s = admits q.source m.from in let t = admits q.tag m.tag in
    let h3 = both (a && b && s) t h in let h2 = both (a && b) s h3.0 in let h1 = both a b h2.0 in
    (nat_says m.comm q.comm h1.0, nat_says m.to q.at h1.1, h2.1, h3.1)

pub fit_from : (m : Message) (q : Receive) → m.comm ≡ q.comm → m.to ≡ q.at → admits q.source m.from ≡ true → admits q.tag m.tag ≡ true → envelopes_fit m q ≡ true
fit_from m q c r s t =
    let a = eqb m.comm q.comm in let b = eqb m.to q.at in let x = admits q.source m.from in let y = admits q.tag m.tag in
    and_true (a && b && x) y (and_true (a && b) x (and_true a b (equal_nats m.comm q.comm c) (equal_nats m.to q.at r)) s) t

not_least : (b : Bool) → b ≡ true → b ≡ false → ⊥
not_least true h g = cc
not_least false h g = cc

abbrev pub queue : ℕ → ℕ → ℕ → ℕ → Queue
queue comm from to tag = (to, from, tag, comm)

abbrev pub lane : ℕ → ℕ → ℕ → Lane
lane comm from to = (to, from, comm)

abbrev receive_key : ℕ → ℕ → Option ℕ → Option ℕ → ReceiveKey
receive_key comm at source tag = (at, tag, source, comm)

-- messages whose envelopes fit a receive of a tag are those of its queue
pub queue_fits : (q : Receive) (s t : ℕ) (n : Message) → q.source ≡ Some s → q.tag ≡ Some t → envelopes_fit n q ≡ true → queue q.comm s q.at t ≡ queue_of n
queue_fits q s t n e f h =
    let p = fit_parts n q h in
    let a : s ≡ n.from = admits_says s n.from (ap (λ (o : Option ℕ). admits o n.from) (sym e) ∙ p.2) in
    let b : t ≡ n.tag = admits_says t n.tag (ap (λ (o : Option ℕ). admits o n.tag) (sym f) ∙ p.3) in
    ap (λ c. queue c s q.at t) (sym p.0) ∙ ap (λ r. queue n.comm r q.at t) a ∙ ap (λ r. queue n.comm n.from r t) (sym p.1) ∙ ap (λ r. queue n.comm n.from n.to r) b

pub fits_queue : (q : Receive) (s t : ℕ) (n : Message) → q.source ≡ Some s → q.tag ≡ Some t → queue q.comm s q.at t ≡ queue_of n → envelopes_fit n q ≡ true
fits_queue q s t n e f k =
    fit_from n q (sym (ap (λ (x : Queue). x.3) k)) (sym (ap (λ (x : Queue). x.0) k))
    (ap (λ (o : Option ℕ). admits o n.from) e ∙ equal_nats s n.from (ap (λ (x : Queue). x.1) k))
    (ap (λ (o : Option ℕ). admits o n.tag) f ∙ equal_nats t n.tag (ap (λ (x : Queue). x.2) k))

-- and those that fit one of any tag are those of its lane
pub lane_fits : (q : Receive) (s : ℕ) (n : Message) → q.source ≡ Some s → envelopes_fit n q ≡ true → lane q.comm s q.at ≡ lane_of n
lane_fits q s n e h =
    let p = fit_parts n q h in
    let a : s ≡ n.from = admits_says s n.from (ap (λ (o : Option ℕ). admits o n.from) (sym e) ∙ p.2) in
    ap (λ c. lane c s q.at) (sym p.0) ∙ ap (λ r. lane n.comm r q.at) a ∙ ap (λ r. lane n.comm n.from r) (sym p.1)

pub fits_lane : (q : Receive) (s : ℕ) (n : Message) → q.source ≡ Some s → q.tag ≡ None → lane q.comm s q.at ≡ lane_of n → envelopes_fit n q ≡ true
fits_lane q s n e f k =
    fit_from n q (sym (ap (λ (x : Lane). x.2) k)) (sym (ap (λ (x : Lane). x.0) k))
    (ap (λ (o : Option ℕ). admits o n.from) e ∙ equal_nats s n.from (ap (λ (x : Lane). x.1) k))
    (ap (λ (o : Option ℕ). admits o n.tag) f)

module _ (tagged : BTreeMap Queue (BTreeSet Message)) (lanes : BTreeMap Lane (BTreeSet Message)) (inv : AreQueued tagged lanes) where
  pub in_queue : (m : Message) → has queue_cmp message_cmp tagged (queue_of m) m ≡ true → Has (members tagged) m
  in_queue m h = has_member queues_total exact_queues messages_total exact_messages tagged inv.first_ordered (queue_of m) m h

  at_queue : (m : Message) → Has (members tagged) m → has queue_cmp message_cmp tagged (queue_of m) m ≡ true
  at_queue m i = stands queues_total exact_queues messages_total exact_messages queue_of tagged inv.first_ordered inv.first_placed m i

  -- the first of a queue is the first whose envelope fits a receive of its tag
  pub queue_first : (q : Receive) (s t : ℕ) (n : Message) → q.source ≡ Some s → q.tag ≡ Some t → has queue_cmp message_cmp tagged (queue q.comm s q.at t) n ≡ true →
      ((d : Message) → has queue_cmp message_cmp tagged (queue q.comm s q.at t) d ≡ true → is_gt (message_cmp n d) ≡ false) → IsFirstMessage (members tagged) q n
  queue_first q s t n e f h least =
      let k : queue q.comm s q.at t ≡ queue_of n = inv.first_placed (queue q.comm s q.at t) n h in
      record {
        member = has_member queues_total exact_queues messages_total exact_messages tagged inv.first_ordered (queue q.comm s q.at t) n h;
        fit = fits_queue q s t n e f k;
        first = λ p i g b. not_least (is_gt (message_cmp n p)) (later_message p n b)
            (least p (ap (λ (x : Queue). has queue_cmp message_cmp tagged x p) (queue_fits q s t p e f g) ∙ at_queue p i));
      }

  pub queue_none : (q : Receive) (s t : ℕ) → q.source ≡ Some s → q.tag ≡ Some t → ((d : Message) → has queue_cmp message_cmp tagged (queue q.comm s q.at t) d ≡ false) →
      (n : Message) → Has (members tagged) n → envelopes_fit n q ≡ true → ⊥
  queue_none q s t e f none n i g =
      not_least (has queue_cmp message_cmp tagged (queue q.comm s q.at t) n) (ap (λ (x : Queue). has queue_cmp message_cmp tagged x n) (queue_fits q s t n e f g) ∙ at_queue n i) (none n)

  at_lane : (m : Message) → Has (members tagged) m → has lane_cmp message_cmp lanes (lane_of m) m ≡ true
  at_lane m i = sym (inv.same m) ∙ at_queue m i

  -- the first of a lane is the first whose envelope fits a receive of any tag
  pub lane_first : (q : Receive) (s : ℕ) (n : Message) → q.source ≡ Some s → q.tag ≡ None → has lane_cmp message_cmp lanes (lane q.comm s q.at) n ≡ true →
      ((d : Message) → has lane_cmp message_cmp lanes (lane q.comm s q.at) d ≡ true → is_gt (message_cmp n d) ≡ false) → IsFirstMessage (members tagged) q n
  lane_first q s n e f h least =
      let k : lane q.comm s q.at ≡ lane_of n = inv.second_placed (lane q.comm s q.at) n h in
      record {
        member = in_queue n (inv.same n ∙ ap (λ (x : Lane). has lane_cmp message_cmp lanes x n) (sym k) ∙ h);
        fit = fits_lane q s n e f k;
        first = λ p i g b. not_least (is_gt (message_cmp n p)) (later_message p n b)
            (least p (ap (λ (x : Lane). has lane_cmp message_cmp lanes x p) (lane_fits q s p e g) ∙ at_lane p i));
      }

  pub lane_none : (q : Receive) (s : ℕ) → q.source ≡ Some s → ((d : Message) → has lane_cmp message_cmp lanes (lane q.comm s q.at) d ≡ false) →
      (n : Message) → Has (members tagged) n → envelopes_fit n q ≡ true → ⊥
  lane_none q s e none n i g =
      not_least (has lane_cmp message_cmp lanes (lane q.comm s q.at) n) (ap (λ (x : Lane). has lane_cmp message_cmp lanes x n) (lane_fits q s n e g) ∙ at_lane n i) (none n)

  pub queue_if : (q : Receive) (s t : ℕ) (o : Option Message) → q.source ≡ Some s → q.tag ≡ Some t →
      IfSome o (λ n. (has queue_cmp message_cmp tagged (queue q.comm s q.at t) n ≡ true) × ((d : Message) → has queue_cmp message_cmp tagged (queue q.comm s q.at t) d ≡ true → is_gt (message_cmp n d) ≡ false)) →
      IfSome o (IsFirstMessage (members tagged) q)
  queue_if q s t None e f h = tt
  queue_if q s t (Some n) e f h = queue_first q s t n e f h.0 h.1

  pub queue_if_none : (q : Receive) (s t : ℕ) (o : Option Message) → q.source ≡ Some s → q.tag ≡ Some t → IfNone o ((d : Message) → has queue_cmp message_cmp tagged (queue q.comm s q.at t) d ≡ false) →
      IfNone o (is_some q.source ≡ true → (n : Message) → Has (members tagged) n → envelopes_fit n q ≡ true → ⊥)
  queue_if_none q s t None e f h = λ told. queue_none q s t e f h
  queue_if_none q s t (Some n) e f h = tt

  pub lane_if : (q : Receive) (s : ℕ) (o : Option Message) → q.source ≡ Some s → q.tag ≡ None →
      IfSome o (λ n. (has lane_cmp message_cmp lanes (lane q.comm s q.at) n ≡ true) × ((d : Message) → has lane_cmp message_cmp lanes (lane q.comm s q.at) d ≡ true → is_gt (message_cmp n d) ≡ false)) →
      IfSome o (IsFirstMessage (members tagged) q)
  lane_if q s None e f h = tt
  lane_if q s (Some n) e f h = lane_first q s n e f h.0 h.1

  pub lane_if_none : (q : Receive) (s : ℕ) (o : Option Message) → q.source ≡ Some s → IfNone o ((d : Message) → has lane_cmp message_cmp lanes (lane q.comm s q.at) d ≡ false) →
      IfNone o (is_some q.source ≡ true → (n : Message) → Has (members tagged) n → envelopes_fit n q ≡ true → ⊥)
  lane_if_none q s None e h = λ told. lane_none q s e h
  lane_if_none q s (Some n) e h = tt

-- the kinds that are marked, as one comes
or_more : (a b : Bool) → a ≡ true → (a || b) ≡ true
or_more true b h = refl
or_more false b h = absurd (cc)

or_new : (a : Bool) → (a || true) ≡ true
or_new true = refl
or_new false = refl

pub had_with : (k : Kinds) (s t : Option ℕ) → had (kinds_with k s t) s t ≡ true
had_with k None None = or_new k.untold_any_tag
had_with k None (Some b) = or_new k.untold
had_with k (Some a) None = or_new k.told_any_tag
had_with k (Some a) (Some b) = or_new k.told

pub had_still : (k : Kinds) (s t : Option ℕ) (a b : Option ℕ) → had k a b ≡ true → had (kinds_with k s t) a b ≡ true
had_still k s t None None h = or_more k.untold_any_tag (is_none s && is_none t) h
had_still k s t None (Some b) h = or_more k.untold (is_none s && is_some t) h
had_still k s t (Some a) None h = or_more k.told_any_tag (is_some s && is_none t) h
had_still k s t (Some a) (Some b) h = or_more k.told (is_some s && is_some t) h

-- receives of one kind are marked alike
pub had_alike : (k : Kinds) (s t a b : Option ℕ) → (alike s a && alike t b) ≡ true → had k a b ≡ had k s t
had_alike k None None None None h = refl
had_alike k None None None (Some b) h = absurd (cc)
had_alike k None None (Some a) b h = absurd (cc)
had_alike k None (Some t) None None h = absurd (cc)
had_alike k None (Some t) None (Some b) h = refl
had_alike k None (Some t) (Some a) b h = absurd (cc)
had_alike k (Some s) None None b h = absurd (cc)
had_alike k (Some s) None (Some a) None h = refl
had_alike k (Some s) None (Some a) (Some b) h = absurd (cc)
had_alike k (Some s) (Some t) None b h = absurd (cc)
had_alike k (Some s) (Some t) (Some a) None h = absurd (cc)
had_alike k (Some s) (Some t) (Some a) (Some b) h = refl

told_alike : (a b : Option ℕ) (x : ℕ) → alike a b ≡ true → admits a x ≡ true → admits b x ≡ true → a ≡ b
told_alike None None x h f g = refl
told_alike None (Some b) x h f g = absurd (cc)
told_alike (Some a) None x h f g = absurd (cc)
told_alike (Some a) (Some b) x h f g = ap (λ (y : ℕ). Some y) (admits_says a x f ∙ sym (admits_says b x g))

-- the key of a receive of that kind that the message fits
pub receive_key_fits : (m : Message) (source tag : Option ℕ) (r : Receive) → admits source m.from ≡ true → admits tag m.tag ≡ true → of_kind source tag r ≡ true → envelopes_fit m r ≡ true → receive_key m.comm m.to source tag ≡ receive_key_of r
receive_key_fits m source tag r a b k h =
    let p = fit_parts m r h in
    let t = both (alike source r.source) (alike tag r.tag) k in
    let x = told_alike source r.source m.from t.0 a p.2 in
    let y = told_alike tag r.tag m.tag t.1 b p.3 in
    ap (λ c. receive_key c m.to source tag) p.0 ∙ ap (λ c. receive_key r.comm c source tag) p.1 ∙ ap (λ c. receive_key r.comm r.at c tag) x ∙ ap (λ c. receive_key r.comm r.at r.source c) y

module _ (kinds : Kinds) (groups : BTreeMap ReceiveKey (BTreeSet Receive)) (inv : AreGrouped kinds groups) where
  -- a kind that no receive had
  pub kind_none : (m : Message) (source tag : Option ℕ) → had kinds source tag ≡ false → IsBestAmong (members groups) m (of_kind source tag) None
  kind_none m source tag none r i g f = not_least (had kinds r.source r.tag) (inv.marked r i) (had_alike kinds source tag r.source r.tag g ∙ none)

  at_receive_key : (r : Receive) → Has (members groups) r → has receive_key_cmp receive_cmp groups (receive_key_of r) r ≡ true
  at_receive_key r i = stands receive_keys_total exact_receive_keys receives_total exact_receives receive_key_of groups inv.ordered inv.placed r i

  pub receive_key_first : (m : Message) (source tag : Option ℕ) (q : Receive) → admits source m.from ≡ true → admits tag m.tag ≡ true → has receive_key_cmp receive_cmp groups (receive_key m.comm m.to source tag) q ≡ true →
      ((d : Receive) → has receive_key_cmp receive_cmp groups (receive_key m.comm m.to source tag) d ≡ true → is_gt (receive_cmp q d) ≡ false) → IsBestAmong (members groups) m (of_kind source tag) (Some q)
  receive_key_first m source tag q a b h least =
      let k : receive_key m.comm m.to source tag ≡ receive_key_of q = inv.placed (receive_key m.comm m.to source tag) q h in (
        has_member receive_keys_total exact_receive_keys receives_total exact_receives groups inv.ordered (receive_key m.comm m.to source tag) q h,
        fit_from m q (ap (λ (x : ReceiveKey). x.3) k) (ap (λ (x : ReceiveKey). x.0) k)
            (ap (λ (o : Option ℕ). admits o m.from) (sym (ap (λ (x : ReceiveKey). x.2) k)) ∙ a) (ap (λ (o : Option ℕ). admits o m.tag) (sym (ap (λ (x : ReceiveKey). x.1) k)) ∙ b),
        λ r i g f p. not_least (is_gt (receive_cmp q r)) (later_receive r q p)
            (least r (ap (λ (x : ReceiveKey). has receive_key_cmp receive_cmp groups x r) (receive_key_fits m source tag r a b g f) ∙ at_receive_key r i)),
      )

  pub receive_key_none : (m : Message) (source tag : Option ℕ) → admits source m.from ≡ true → admits tag m.tag ≡ true → ((d : Receive) → has receive_key_cmp receive_cmp groups (receive_key m.comm m.to source tag) d ≡ false) →
      IsBestAmong (members groups) m (of_kind source tag) None
  receive_key_none m source tag a b none r i g f =
      not_least (has receive_key_cmp receive_cmp groups (receive_key m.comm m.to source tag) r) (ap (λ (x : ReceiveKey). has receive_key_cmp receive_cmp groups x r) (receive_key_fits m source tag r a b g f) ∙ at_receive_key r i) (none r)

  pub receive_key_if : (m : Message) (source tag : Option ℕ) (o : Option Receive) → admits source m.from ≡ true → admits tag m.tag ≡ true →
      IfSome o (λ q. (has receive_key_cmp receive_cmp groups (receive_key m.comm m.to source tag) q ≡ true) × ((d : Receive) → has receive_key_cmp receive_cmp groups (receive_key m.comm m.to source tag) d ≡ true → is_gt (receive_cmp q d) ≡ false)) →
      IfNone o ((d : Receive) → has receive_key_cmp receive_cmp groups (receive_key m.comm m.to source tag) d ≡ false) → IsBestAmong (members groups) m (of_kind source tag) o
  receive_key_if m source tag None a b h g = receive_key_none m source tag a b g
  receive_key_if m source tag (Some q) a b h g = receive_key_first m source tag q a b h.0 h.1

-- one stands there, or none does
pub best_some : (xs : List Receive) (m : Message) (p : Receive → Bool) (o : Option Receive) → IsBestAmong xs m p o → is_some o ≡ true → SomeFits xs m
best_some xs m p None h e = absurd (cc)
best_some xs m p (Some q) h e = (q, h.0, h.1)

pub best_none : (xs : List Receive) (m : Message) (p : Receive → Bool) (o : Option Receive) → IsBestAmong xs m p o → is_some o ≡ false → IsBestAmong xs m p None
best_none xs m p None h e = h
best_none xs m p (Some q) h e = absurd (cc)

-- the groups, as a receive comes or goes
module _ (kinds : Kinds) (old new : BTreeMap ReceiveKey (BTreeSet Receive)) (inv : AreGrouped kinds old) (o : IsOrdered receive_key_cmp new) where
  pub grouped_same : (s t : Option ℕ) → ((k : ReceiveKey) (d : Receive) → has receive_key_cmp receive_cmp new k d ≡ has receive_key_cmp receive_cmp old k d) → AreGrouped (kinds_with kinds s t) new
  grouped_same s t law = record {
    ordered = o;
    placed = λ k d h. inv.placed k d (sym (law k d) ∙ h);
    marked = λ r i. had_still kinds s t r.source r.tag (inv.marked r (same_members receive_keys_total exact_receive_keys receives_total exact_receives old new inv.ordered o law r i));
  }

  pub grouped_more : (q : Receive) → ((k : ReceiveKey) (d : Receive) → has receive_key_cmp receive_cmp new k d ≡ ((is_eq (receive_key_cmp (receive_key_of q) k) && is_eq (receive_cmp q d)) || has receive_key_cmp receive_cmp old k d)) → AreGrouped (kinds_with kinds q.source q.tag) new
  grouped_more q law = record {
    ordered = o;
    placed = placed_more receive_keys_total exact_receive_keys receives_total exact_receives receive_key_of old new inv.placed q law;
    marked = λ r i. ⊎_elim
        (λ (j : Has (members old) r). had_still kinds q.source q.tag r.source r.tag (inv.marked r j))
        (λ (e : r ≡ q). subst (λ (x : Receive). had (kinds_with kinds q.source q.tag) x.source x.tag ≡ true) (sym e) (had_with kinds q.source q.tag))
        ((adds receive_keys_total exact_receive_keys receives_total exact_receives old new inv.ordered o (receive_key_of q) q law).cases r i);
  }

  pub grouped_less : (q : Receive) → ((k : ReceiveKey) (d : Receive) → has receive_key_cmp receive_cmp new k d ≡ cond (is_eq (receive_key_cmp (receive_key_of q) k) && is_eq (receive_cmp q d)) false (has receive_key_cmp receive_cmp old k d)) → AreGrouped kinds new
  grouped_less q law = record {
    ordered = o;
    placed = placed_less receive_keys_total exact_receive_keys receives_total exact_receives receive_key_of old new inv.placed (receive_key_of q) q law;
    marked = λ r i. inv.marked r ((drops receive_keys_total exact_receive_keys receives_total exact_receives receive_key_of old new inv.ordered o inv.placed q law).was r i);
  }

-- each receive is of one of the four kinds
pub kinds : (a b : Option ℕ) (x y : ℕ) → ((alike (Some x) a && alike (Some y) b) || (alike (Some x) a && alike None b) || ((alike None a && alike (Some y) b) || (alike None a && alike None b))) ≡ true
kinds None None x y = refl
kinds None (Some b) x y = refl
kinds (Some a) None x y = refl
kinds (Some a) (Some b) x y = refl

abbrev pub all_kinds : Message → Receive → Bool
all_kinds m r = (of_kind (Some m.from) (Some m.tag) r || of_kind (Some m.from) None r) || (of_kind None (Some m.tag) r || of_kind None None r)

pub none_of_kinds : (xs : List Receive) (m : Message) → IsBestAmong xs m (of_kind (Some m.from) (Some m.tag)) None → IsBestAmong xs m (of_kind (Some m.from) None) None →
    IsBestAmong xs m (of_kind None (Some m.tag)) None → IsBestAmong xs m (of_kind None None) None → NoneFits xs m
none_of_kinds xs m a b d e r i f =
    let told = of_kind (Some m.from) (Some m.tag) r || of_kind (Some m.from) None r in
    let untold = of_kind None (Some m.tag) r || of_kind None None r in
    ⊎_elim
    (λ (h : told ≡ true). ⊎_elim (λ (g : of_kind (Some m.from) (Some m.tag) r ≡ true). a r i g f) (λ (g : of_kind (Some m.from) None r ≡ true). b r i g f)
    (either (of_kind (Some m.from) (Some m.tag) r) (of_kind (Some m.from) None r) h))
    (λ (h : untold ≡ true). ⊎_elim (λ (g : of_kind None (Some m.tag) r ≡ true). d r i g f) (λ (g : of_kind None None r ≡ true). e r i g f)
    (either (of_kind None (Some m.tag) r) (of_kind None None r) h))
    (either told untold (kinds r.source r.tag m.from m.tag))

pub best_if : (xs : List Receive) (m : Message) (o : Option Receive) → IsBestAmong xs m (all_kinds m) o → IfSome o (IsFirstReceive xs m)
best_if xs m None h = tt
best_if xs m (Some q) h = record { member = h.0; fit = h.1; first = λ r i f b. h.2 r i (kinds r.source r.tag m.from m.tag) f b }

pub best_if_none : (xs : List Receive) (m : Message) (o : Option Receive) → IsBestAmong xs m (all_kinds m) o → IfNone o (NoneFits xs m)
best_if_none xs m None h = λ r i f. h r i (kinds r.source r.tag m.from m.tag) f
best_if_none xs m (Some q) h = tt
