-- What a receive of a new call takes, where other parts of the call may fit the same message.
use Rattle.std.proofs.Common.{subst, ◌≡◌, ℕ, true, ◌⊎◌, List, inl, inr, ⊎_elim, sym, refl, ◌∙◌, ap, arith, Option, Some, None}
use Rattle.std.specs.Prelude.{is_some}
use Rattle.std.proofs.lemmas.Bool.Decides.{nat_tests}
use Rattle.mpi_model.specs.declared.message.Message.{Message}
use Rattle.mpi_model.specs.declared.message.Receive.{Receive}
use Rattle.mpi_model.specs.Fit.{admits, envelopes_fit, fits}
use Rattle.mpi_model.specs.Trusts.{is_settled}
use Rattle.trace_ops.specs.Order.{Has, sent_before}
use Rattle.trace_pair.specs.Calls.{AddsReceives, AreApart, ArePostedApart}
use Rattle.trace_pair.specs.Indexed.{AreSets, Found, OffersMessage, couple_of}
use Rattle.trace_pair.specs.Pairing.{After, paired, Paired}
use Rattle.trace_pair.specs.Places.{sent_at, posted_at, earlier, together, no_later, sent_no_later, posted_no_later}
use Rattle.trace_pair.specs.Sets.{AddsTo, DropsFrom, IsSameSet}
use Rattle.trace_pair.specs.declared.pair.Couple.{Couple}
use Rattle.trace_pair.proofs.Certain.{in_order, not_put}
use Rattle.trace_pair.proofs.Fitting.{fit_parts, fit_from, fits_at, fits_live, envelope_of, settled_live, settled_parts, sure_stands}
use Rattle.trace_pair.proofs.Holding.{same_sets, same_lists, couple_found}
use Rattle.trace_pair.proofs.Obeyed.{any_or_none, before_lt, posted_lt, either, or_right, sent_earlier}
use Rattle.trace_pair.proofs.Steps.{same_sender, turned, first_of_two, receive-keeps, receive-adds_none, takes_receive, receive-taken}
use Rattle.mpi_model.specs.declared.event.OpName.{OpName}

-- two operations of one call of one rank that aren't one
pub parts_apart : (a b : OpName) → a.rank ≡ b.rank → a.call ≡ b.call → (a ≡ b → ⊥) → no_later a b ≡ true
parts_apart a b e f not =
    ⊎_elim (λ (x : no_later a b ≡ true). x)
    (λ d. ⊎_elim
    (λ (x : no_later b a ≡ true). ⊎_elim (λ (y : earlier b a ≡ true). absurd (grind (arith, nat_tests))) (λ (y : together b a ≡ true). or_right (earlier a b) (together a b) (turned b a y)) (either (earlier b a) (together b a) x))
    (λ (x : a ≡ b). absurd (not x)) d)
    (in_order a b e)

-- where both tags admit one number, and the second another one, the first does too, unless the second is any
pub tag_admits : (a b : Option ℕ) (x y : ℕ) → admits a x ≡ true → admits b x ≡ true → admits b y ≡ true → (admits a y ≡ true) ⊎ ((b ≡ None) × (is_some a ≡ true))
tag_admits None b x y h g f = inl refl
tag_admits (Some s) None x y h g f = inr (refl, refl)
tag_admits (Some s) (Some t) x y h g f = inl (grind (arith, nat_tests))

-- a message that fits one of two receives fits the other too, where one message of its sender fits both; or that names
-- a tag, and this one doesn't
pub fits_beside : (m n : Message) (q r : Receive) → fits m q ≡ true → fits m r ≡ true → fits n r ≡ true → n.from ≡ m.from → (fits n q ≡ true) ⊎ ((r.tag ≡ None) × (is_some q.tag ≡ true))
fits_beside m n q r h g f same =
    let a = fit_parts m q h in let b = fit_parts m r g in let c = fit_parts n r f in
    let x = a.comm in let y = b.comm in let z = c.comm in
    let u = a.to in let v = b.to in let w = c.to in
    ⊎_elim
    (λ (t : admits q.tag n.tag ≡ true). inl (fit_from n q (record {
      comm = grind (arith, nat_tests);
      to = grind (arith, nat_tests);
      source = subst (λ (s : ℕ). admits q.source s ≡ true) (sym same) a.source;
      tag = t;
      message_stands = c.message_stands;
      receive_stands = a.receive_stands;
    })))
    (λ d. inr d)
    (tag_admits q.tag r.tag m.tag n.tag a.tag b.tag c.tag)

module _ (after : After) (ms : List Message) (qs more call : List Receive) (adds : AddsReceives qs more call) (apart : AreApart ms) (posted_apart : ArePostedApart more)
    (q : Receive) (c : Has call q) (settled : is_settled q ≡ true) (m : Message) (offer : OffersMessage after ms qs more q m) where
  -- no other message is paired with it
  pub only_offer : (n : Message) → Has ms n → Paired after ms more n q → n ≡ m
  only_offer n i h =
      let t = receive-taken after ms qs more call adds n q i c h in
      ⊎_elim (λ (x : sent_before n m ≡ true). let w = offer.first_waiting n i (sent_earlier m n x) t.fit in absurd (t.waits w.0 w.1 w.2))
      (λ d. ⊎_elim (λ (x : sent_no_later m n ≡ true). let w = t.first_waiting m offer.member x offer.fit in absurd (offer.waits w.0 w.1 w.2))
      (λ (e : sent_at n ≡ sent_at m). apart n m i offer.member e) d)
      (first_of_two (sent_at n) (sent_at m) (same_sender n m q (settled_parts q settled).0 t.fit offer.fit))

  -- another part of the call that fits the message
  beside : (r : Receive) → Has call r → fits m r ≡ true → (r ≡ q → ⊥) → posted_no_later r q ≡ true
  beside r k f not = parts_apart (posted_at r) (posted_at q) (sym (fits_at m r f) ∙ fits_at m q offer.fit) (adds.one_call q r c k) (λ e. not (posted_apart r q (adds.new r k) (adds.new q c) e))

  beside_back : (r : Receive) → Has call r → fits m r ≡ true → (r ≡ q → ⊥) → posted_no_later q r ≡ true
  beside_back r k f not = parts_apart (posted_at q) (posted_at r) (sym (fits_at m q offer.fit) ∙ fits_at m r f) (adds.one_call r q k c) (λ e. not (sym (posted_apart q r (adds.new q c) (adds.new r k) e)))

  -- isn't paired with it
  pub another : (r : Receive) → Has call r → (r ≡ q → ⊥) → Paired after ms more m r → ⊥
  another r k not h =
      let t = receive-taken after ms qs more call adds m r offer.member k h in
      let w = t.parts q c settled (beside_back r k t.fit not) offer.fit in
      let e = only_offer w.0 w.1 w.3 in
      let lt = before_lt m w.0 w.2 in
      let same = ap (λ (x : Message). x.name.call) e in
      absurd (omega arith)

  module _ (Done : Message → Receive → Type 0) (old : (n : Message) (r : Receive) → Has qs r → Done n r) (waiting : List Message) (free opened : List Receive) (couples : List Couple)
      (held : AreSets (Found after ms more Done) ms more waiting free opened couples) where
    -- where another receive that the message fits is free, they are no pair
    pub left_free : ((n : Message) (r : Receive) → Has call r → r.tag ≡ None → is_some q.tag ≡ true → Done n r) → (r : Receive) → Has free r → (r ≡ q → ⊥) → envelopes_fit m r ≡ true → Paired after ms more m q → ⊥
    left_free order r i not env h =
        let o = held.frees r i in
        let f = fits_live m r (sure_stands m.trust offer.sure) (settled_live r o.1) env in
        let t = receive-taken after ms qs more call adds m q offer.member c h in
        ⊎_elim
        (λ (k : Has qs r). let w = t.none_free r k o.1 f in o.2 w.0 w.1 (receive-keeps after ms qs more call adds w.0 r w.1 k w.2, old w.0 r k))
        (λ (k : Has call r).
        let w = t.parts r k o.1 (beside r k f not) f in
        let v = receive-taken after ms qs more call adds w.0 r w.1 k w.3 in
        ⊎_elim
        (λ (g : fits w.0 q ≡ true). let u = offer.first_waiting w.0 w.1 (sent_earlier m w.0 w.2) g in v.waits u.0 u.1 u.2)
        (λ (d : (r.tag ≡ None) × (is_some q.tag ≡ true)). o.2 w.0 w.1 (w.3, order w.0 r k d.0 d.1))
        (fits_beside m w.0 q r offer.fit f v.fit (same_sender w.0 m r (settled_parts r o.1).0 v.fit f)))
        (adds.cases r o.0)

    -- where none is, they are one
    pub taken_free : ((r : Receive) → Has free r → (r ≡ q → ⊥) → envelopes_fit m r ≡ true → ⊥) → Paired after ms more m q
    taken_free none =
        let found : (r : Receive) → Has more r → is_settled r ≡ true → fits m r ≡ true → (r ≡ q → ⊥) → (n : Message) × Has ms n × Paired after ms more n r = λ r i s f not.
        ⊎_elim (λ (w : (n : Message) × Has ms n × Paired after ms more n r). w)
        (λ (away : (n : Message) → Has ms n → Paired after ms more n r → ⊥). absurd (none r (held.frees_all r i s (λ n j p. away n j p.0)) not (envelope_of m r f)))
        (any_or_none (λ n. paired after ms more n r) ms) in
        takes_receive after ms qs more call adds m q offer.member c apart (record {
          told = (settled_parts q settled).0;
          sure_receive = (settled_parts q settled).1;
          sure_message = offer.sure;
          fit = offer.fit;
          no_open = λ u i n f. offer.no_open u (adds.old u i) n f;
          waits = offer.waits;
          first_waiting = offer.first_waiting;
          none_free = λ r i s f.
              let w = found r (adds.old r i) s f (λ e. let lt = posted_lt q r (adds.behind r q i c (ap (λ (x : Receive). x.at) e)) in let same = ap (λ (x : Receive). x.name.call) e in absurd (omega arith)) in
              (w.0, w.1, receive-adds_none after ms qs more call adds w.0 r w.1 i w.2);
          no_open_part = λ u i n p f. offer.no_open u (adds.new u i) n f;
          parts = λ r k s p f.
              let not : r ≡ q → ⊥ = λ e. not_put q r p (ap (λ (x : Receive). x.name) e) in
              let w = found r (adds.new r k) s f not in
              let v = receive-taken after ms qs more call adds w.0 r w.1 k w.2 in
              ⊎_elim (λ (x : sent_before w.0 m ≡ true). (w.0, w.1, x, w.2))
              (λ d. ⊎_elim
              (λ (x : sent_no_later m w.0 ≡ true). let u = v.first_waiting m offer.member x f in absurd (offer.waits u.0 u.1 u.2))
              (λ (e : sent_at w.0 ≡ sent_at m). absurd (another r k not (subst (λ (x : Message). Paired after ms more x r) (apart w.0 m w.1 offer.member e) w.2))) d)
              (first_of_two (sent_at w.0) (sent_at m) (same_sender w.0 m r (settled_parts r s).0 v.fit f));
        })

    -- the couple is found
    pub settles_taken : Paired after ms more m q → (waits : List Message) (frees : List Receive) (pairs : List Couple) → DropsFrom waiting waits m → DropsFrom free frees q → AddsTo couples pairs (couple_of m q)
        → AreSets (Found after ms more (λ n r. Done n r ⊎ (r ≡ q))) ms more waits frees opened pairs
    settles_taken h waits frees pairs w f p =
        let R = Found after ms more Done in
        same_sets (λ n r. R n r ⊎ ((n ≡ m) × (r ≡ q))) ms more waits frees opened pairs
        (couple_found R ms more waiting free opened couples held m q offer.member (adds.new q c) waits frees pairs w f p)
        (Found after ms more (λ n r. Done n r ⊎ (r ≡ q)))
        (λ n r i j x. ⊎_elim (λ (y : R n r). (y.0, inl y.1))
        (λ (e : (n ≡ m) × (r ≡ q)). (subst (λ (z : Message). Paired after ms more z r) (sym e.0) (subst (λ (z : Receive). Paired after ms more m z) (sym e.1) h), inr e.1)) x)
        (λ n r i j x. ⊎_elim (λ (d : Done n r). inl (x.0, d))
        (λ (e : r ≡ q). inr (only_offer n i (subst (λ (z : Receive). Paired after ms more n z) e x.0), e)) x.1)

    -- there is none
    pub settles_left : (Paired after ms more m q → ⊥) → (frees : List Receive) → IsSameSet free frees → AreSets (Found after ms more (λ n r. Done n r ⊎ (r ≡ q))) ms more waiting frees opened couples
    settles_left not frees f =
        let R = Found after ms more Done in
        same_sets R ms more waiting frees opened couples
        (same_lists R ms more waiting free opened couples held waiting frees couples (record { keeps = λ n i. i; was = λ n i. i }) f (record { keeps = λ d i. i; was = λ d i. i }))
        (Found after ms more (λ n r. Done n r ⊎ (r ≡ q)))
        (λ n r i j x. (x.0, inl x.1))
        (λ n r i j x. ⊎_elim (λ (d : Done n r). (x.0, d))
        (λ (e : r ≡ q). let g = subst (λ (z : Receive). Paired after ms more n z) e x.0 in absurd (not (subst (λ (z : Message). Paired after ms more z q) (only_offer n i g) g))) x.1)
