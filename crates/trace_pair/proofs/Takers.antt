-- What a new message goes to, and what a new receive takes, as an index finds it where each call has one part.
use Rattle.std.proofs.Common.{subst, ◌≡◌, true, false, ◌&&◌, List, [], ◌∷◌, inl, ⊎_elim, sym, refl, ◌∙◌, ap, arith, eqb}
use Rattle.std.specs.Prelude.{not}
use Rattle.std.proofs.lemmas.Bool.Decides.{nat_tests}
use Rattle.mpi_model.specs.declared.event.OpName.{OpName}
use Rattle.mpi_model.specs.declared.message.Message.{Message}
use Rattle.mpi_model.specs.declared.message.Receive.{Receive}
use Rattle.mpi_model.specs.Fit.{envelopes_fit, fits}
use Rattle.mpi_model.specs.Trusts.{is_sure, is_open, is_settled}
use Rattle.trace_ops.specs.Order.{Has}
use Rattle.trace_pair.specs.Calls.{AddsReceives, ArePostedApart, AreSentAlone, ArePostedAlone}
use Rattle.trace_pair.specs.Ends.{NoneHides, SomeHides, NoneHidesUpTo, SomeHidesUpTo}
use Rattle.trace_pair.specs.Indexed.{AwaitReceives, IsFirstMessage, IsFirstReceive, IsIndexed, IsSoleMessage, OffersMessage, TakesMessage, name_lt}
use Rattle.trace_pair.specs.Pairing.{After, paired, Paired}
use Rattle.trace_pair.specs.Places.{posted_at, earlier, together, no_later, posted_no_later}
use Rattle.trace_pair.specs.declared.pair.Couple.{Couple}
use Rattle.trace_pair.proofs.Alone.{receive_taken, receive_left}
use Rattle.trace_pair.proofs.Certain.{in_order, no_later_apart, one_call, one_part}
use Rattle.trace_pair.proofs.Fitting.{envelope_of, false_apart, fits_live, live_message, one_sender, open_live, settled_from, settled_live, settled_not_open, settled_parts, sure_stands}
use Rattle.trace_pair.proofs.Local.{up_to}
use Rattle.trace_pair.proofs.Obeyed.{any_or_none, both, either, posted_le}
use Rattle.trace_pair.proofs.Offers.{none_offered, unsure_offered, hidden_offered, is_offered, posted_named, up_to_no_later}
use Rattle.trace_pair.proofs.Pushes.{absent_receive, awaits_free, put_front}
use Rattle.trace_pair.proofs.Queued.{fit_parts}
use Rattle.trace_pair.proofs.Singles.{posted_apart, more_posted_alone}

-- the name of a call that isn't later stands before the other, where the two are of one call only if they are one
before_named : (a b : OpName) → no_later a b ≡ true → (a.call ≡ b.call → a ≡ b) → name_lt a b ≡ true
before_named a b h alone =
    ⊎_elim (λ (x : earlier a b ≡ true). grind (arith, nat_tests))
    (λ (x : together a b ≡ true).
    let p = both (eqb a.rank b.rank && eqb a.call b.call) (not (eqb a.part b.part)) x in
    let c = (both (eqb a.rank b.rank) (eqb a.call b.call) p.0).1 in
    let e = alone (grind (arith, nat_tests)) in
    absurd (no_later_apart a b h (one_call a b e) (one_part a b e)))
    (either (earlier a b) (together a b) h)

-- ---- a message

module _ (after : After) (ms : List Message) (qs : List Receive) (waiting : List Message) (free opened : List Receive) (couples : List Couple) (held : IsIndexed after ms qs waiting free opened couples)
    (alone : ArePostedAlone qs) (m : Message) where
  -- a free receive of no later call stands before one of the same rank
  ahead : (r q : Receive) → Has free r → Has qs q → envelopes_fit m r ≡ true → envelopes_fit m q ≡ true → posted_no_later r q ≡ true → name_lt r.name q.name ≡ true
  ahead r q k i f g l =
      let j = (held.frees r k).0 in
      before_named r.name q.name (posted_named r q (held.receivers r j) (held.receivers q i) l) (λ e. ap (λ (x : Receive). x.name) (alone r q j i (sym (fit_parts m r f).1 ∙ (fit_parts m q g).1) e))

  -- what may take the message is the first free receive that it fits
  taker_first : (q r : Receive) → Has qs q → TakesMessage after ms qs m q → IsFirstReceive free m r → q ≡ r
  taker_first q r i t first =
      let k : Has free q = held.frees_all q i (settled_from q t.told t.sure_receive) t.is_free in
      let v = held.frees r first.member in
      let f = envelope_of m q t.fit in
      ⊎_elim (λ (x : posted_no_later q r ≡ true). absurd (first.first q k f (ahead q r k v.0 f first.fit x)))
      (λ d. ⊎_elim
      (λ (x : posted_no_later r q ≡ true). let w = t.first_free r v.0 v.1 x (fits_live m r (sure_stands m.trust t.sure_message) (settled_live r v.1) first.fit) in absurd (v.2 w.0 w.1 w.2))
      (λ (e : posted_at q ≡ posted_at r). held.receives_apart q r i v.0 e) d)
      (in_order (posted_at q) (posted_at r) (sym (fit_parts m q f).1 ∙ (fit_parts m r first.fit).1))

  pub none_free : ((r : Receive) → Has free r → envelopes_fit m r ≡ true → ⊥) → (q : Receive) → Has qs q → TakesMessage after ms qs m q → ⊥
  none_free none q i t = none q (held.frees_all q i (settled_from q t.told t.sure_receive) t.is_free) (envelope_of m q t.fit)

  module _ (r : Receive) (first : IsFirstReceive free m r) where
    pub hidden_untaken : SomeHidesUpTo after opened m r → (q : Receive) → Has qs q → TakesMessage after ms qs m q → ⊥
    hidden_untaken h q i t =
        let u = h.0 in
        let o = held.opens u h.1 in
        let v = held.frees r first.member in
        let p : posted_no_later u r ≡ true = up_to_no_later u r h.4 h.5 (λ (same : posted_at u ≡ posted_at r). let d = held.receives_apart u r o.0 v.0 same in settled_not_open r v.1 (subst (λ (x : Receive). is_open x ≡ true) d o.1)) in
        false_apart (after m u) h.3
        (t.no_open u o.0 o.1 (subst (λ (x : Receive). posted_no_later u x ≡ true) (sym (taker_first q r i t first)) p) (fits_live m u (sure_stands m.trust t.sure_message) (open_live u o.1) h.2))

    pub other_waits : (n : Message) → Has waiting n → envelopes_fit n r ≡ true → (q : Receive) → Has qs q → TakesMessage after ms qs m q → ⊥
    other_waits n k f q i t =
        let o = held.waits n k in
        let fit = fits_live n r o.1 (settled_live r (held.frees r first.member).1) f in
        let w = t.none_waits n o.0 (subst (λ (x : Receive). fits n x ≡ true) (sym (taker_first q r i t first)) fit) in
        o.2 w.0 w.1 w.2

    pub taker_found : is_sure m.trust ≡ true → NoneHidesUpTo after opened m r → ((n : Message) → Has waiting n → envelopes_fit n r ≡ true → ⊥) → TakesMessage after ms qs m r
    taker_found sure none no_other =
        let v = held.frees r first.member in
        record {
          told = (settled_parts r v.1).0;
          sure_receive = (settled_parts r v.1).1;
          sure_message = sure;
          fit = fits_live m r (sure_stands m.trust sure) (settled_live r v.1) first.fit;
          no_open = λ u i o p f. none u (held.opens_all u i o) (envelope_of m u f) (up_to (posted_at u) (posted_at r) p).rank (posted_le r u p);
          is_free = v.2;
          first_free = λ q i s p f.
              ⊎_elim (λ (w : (n : Message) × Has ms n × Paired after ms qs n q). w)
              (λ (away : (n : Message) → Has ms n → Paired after ms qs n q → ⊥).
              let k = held.frees_all q i s away in
              absurd (first.first q k (envelope_of m q f) (ahead q r k v.0 (envelope_of m q f) first.fit p)))
              (any_or_none (λ n. paired after ms qs n q) ms);
          none_waits = λ n i f.
              ⊎_elim (λ (w : (q : Receive) × Has qs q × Paired after ms qs n q). w)
              (λ (away : (q : Receive) → Has qs q → Paired after ms qs n q → ⊥). absurd (no_other n (held.waits_all n i (live_message n r f) away) (envelope_of n r f)))
              (any_or_none (paired after ms qs n) qs);
        }

-- ---- a receive

module _ (after : After) (ms : List Message) (qs more : List Receive) (q : Receive) (adds : AddsReceives qs more (q ∷ [])) (settled : is_settled q ≡ true)
    (waiting : List Message) (free opened : List Receive) (couples : List Couple) (held : IsIndexed after ms qs waiting free opened couples) (sent_alone : AreSentAlone ms) (posted_alone : ArePostedAlone qs) where
  own_apart : ArePostedApart more
  own_apart = posted_apart more (more_posted_alone qs more q adds posted_alone)

  -- the receive with those that are free
  posted : AwaitReceives after ms qs more waiting (q ∷ free) opened couples
  posted = awaits_free after ms qs more q adds own_apart waiting free opened couples held settled (q ∷ free) (put_front free q)

  pub none_waiting : ((n : Message) → Has waiting n → envelopes_fit n q ≡ true → ⊥) → (m : Message) → Has ms m → Paired after ms more m q → ⊥
  none_waiting none = none_offered after ms qs more (q ∷ []) adds q (inl refl) settled waiting (q ∷ free) opened couples posted (λ n s. none n s.member s.fit)

  module _ (m : Message) (first : IsFirstMessage waiting q m) where
    sole_message : IsSoleMessage waiting q m
    sole_message = record {
      member = first.member;
      fit = first.fit;
      sole = λ n i f l. first.first n i f (before_named n.name m.name l (λ e.
          ap (λ (x : Message). x.name) (sent_alone n m (held.waits n i).0 (held.waits m first.member).0
          (one_sender q.source n.from m.from (settled_parts q settled).0 (fit_parts n q f).2 (fit_parts m q first.fit).2) e)));
    }

    pub unsure_left : is_sure m.trust ≡ false → (n : Message) → Has ms n → Paired after ms more n q → ⊥
    unsure_left not = unsure_offered after ms qs more (q ∷ []) adds q (inl refl) settled waiting (q ∷ free) opened couples posted m sole_message not

    pub hidden_left : SomeHides after opened m → (n : Message) → Has ms n → Paired after ms more n q → ⊥
    hidden_left h = hidden_offered after ms qs more (q ∷ []) adds q (inl refl) settled waiting (q ∷ free) opened couples posted m sole_message h

    module _ (sure : is_sure m.trust ≡ true) (none : NoneHides after opened m) where
      pub is_offered_it : OffersMessage after ms qs more q m
      is_offered_it = (is_offered after ms qs more (q ∷ []) adds q (inl refl) settled waiting (q ∷ free) opened couples posted m sole_message sure none).1

      pub other_free : (r : Receive) → Has free r → envelopes_fit m r ≡ true → (n : Message) → Has ms n → Paired after ms more n q → ⊥
      other_free = receive_left after ms qs more q adds own_apart settled waiting free (q ∷ free) opened couples (put_front free q) posted m is_offered_it
          (λ k. absent_receive after ms qs more q adds own_apart waiting free opened couples held (held.frees q k).0)

      pub no_other_free : ((r : Receive) → Has free r → envelopes_fit m r ≡ true → ⊥) → Paired after ms more m q
      no_other_free = receive_taken after ms qs more q adds own_apart settled waiting free (q ∷ free) opened couples (put_front free q) posted m is_offered_it
