-- The operations of one call more at the end of their rank: what stays, and what they are paired with.
use Rattle.std.proofs.Common.{subst, ◌≡◌, true, ◌&&◌, ◌⊎◌, List, inl, inr, ⊎_elim, sym, ◌∙◌, ap, arith, eqb}
use Rattle.std.specs.Prelude.{is_some, not}
use Rattle.std.proofs.lemmas.Bool.Decides.{nat_tests}
use Rattle.mpi_model.specs.declared.event.OpName.{OpName}
use Rattle.mpi_model.specs.declared.message.Message.{Message}
use Rattle.mpi_model.specs.declared.message.Receive.{Receive}
use Rattle.trace_pair.specs.Calls.{AddsMessage, AddsReceives, ArePostedApart, AreApart}
use Rattle.mpi_model.specs.Fit.{fits}
use Rattle.trace_pair.specs.Indexed.{TakesMessage, TakesReceive}
use Rattle.trace_ops.specs.Order.{sent_before, posted_before, Has}
use Rattle.trace_pair.specs.Places.{sent_no_later, posted_no_later}
use Rattle.trace_pair.specs.Pairing.{After, Paired}
use Rattle.trace_pair.specs.Places.{sent_at, posted_at, earlier, together, no_later}
use Rattle.trace_pair.proofs.Fitting.{one_sender, fits_source, fits_at, settled_from, settled_parts}
use Rattle.trace_pair.proofs.Obeyed.{both, either, and_true, or_right, not_true, not_true-elim, before_lt, posted_lt, sent_earlier, posted_earlier, pair_obeys, obeys_paired}
use Rattle.trace_pair.proofs.Certain.{one_receive, one_message, in_order, not_sent}
use Rattle.trace_pair.proofs.Local.{IsUpTo, stays_paired, stays_unpaired}

-- two messages that fit one told receive have one sender
pub same_sender : (m n : Message) (q : Receive) → is_some q.source ≡ true → fits m q ≡ true → fits n q ≡ true → m.from ≡ n.from
same_sender m n q t f g = one_sender q.source m.from n.from t (fits_source m q f) (fits_source n q g)

pub turned : (a b : OpName) → together a b ≡ true → together b a ≡ true
turned a b h =
    let p = both (eqb a.rank b.rank && eqb a.call b.call) (not (eqb a.part b.part)) h in
    let r = both (eqb a.rank b.rank) (eqb a.call b.call) p.0 in
    and_true (eqb b.rank a.rank && eqb b.call a.call) (not (eqb b.part a.part))
    (and_true (eqb b.rank a.rank) (eqb b.call a.call) (grind (arith, nat_tests)) (grind (arith, nat_tests)))
    (not_true (eqb b.part a.part) (λ e. not_true-elim (eqb a.part b.part) p.1 (grind (arith, nat_tests))))

-- of two operations of a rank one is earlier, or the second isn't later, or they are one
pub first_of_two : (a b : OpName) → a.rank ≡ b.rank → (earlier a b ≡ true) ⊎ ((no_later b a ≡ true) ⊎ (a ≡ b))
first_of_two a b h =
    ⊎_elim
    (λ (x : no_later a b ≡ true). ⊎_elim (λ (y : earlier a b ≡ true). inl y) (λ (y : together a b ≡ true). inr (inl (or_right (earlier b a) (together b a) (turned a b y)))) (either (earlier a b) (together a b) x))
    (λ d. inr d)
    (in_order a b h)

module _ (after : After) (ms more : List Message) (qs : List Receive) (m : Message) (adds : AddsMessage ms more m) where
  none_sent : (n p : Message) → Has more n → Has ms p → IsUpTo (sent_at n) (sent_at p) → Has ms n
  none_sent n p i j s =
      ⊎_elim (λ (k : Has ms n). k) (λ (e : n ≡ m).
      let u = subst (λ (x : Message). IsUpTo (sent_at x) (sent_at p)) e s in
      let x = before_lt m p (adds.behind p j (sym u.rank)) in let y = u.call in absurd (omega arith)) (adds.cases n i)

  pub message-keeps : (n : Message) (q : Receive) → Has ms n → Has qs q → Paired after ms qs n q → Paired after more qs n q
  message-keeps n q i j h = stays_paired after ms qs more qs adds.old none_sent (λ r k. k) (λ r p k _ _. k) n q i j h

  pub message-adds_none : (n : Message) (q : Receive) → Has ms n → Has qs q → Paired after more qs n q → Paired after ms qs n q
  message-adds_none n q i j h = stays_unpaired after ms qs more qs adds.old none_sent (λ r k. k) (λ r p k _ _. k) n q i j h

  pub takes_message : (q : Receive) → Has qs q → ArePostedApart qs → TakesMessage after ms qs m q → Paired after more qs m q
  takes_message q j named t = obeys_paired after more qs m q (record {
    told = t.told;
    sure_receive = t.sure_receive;
    sure_message = t.sure_message;
    fit = t.fit;
    no_open = t.no_open;
    messages = λ n i s f.
        ⊎_elim
        (λ (k : Has ms n).
        let w = t.none_waits n k f in
        let o = pair_obeys after ms qs n w.0 w.2 in
        let a = fits_at n w.0 o.fit in
        let b = fits_at n q f in
        let p : posted_before w.0 q ≡ true = ⊎_elim (λ (x : posted_before w.0 q ≡ true). x)
        (λ c. ⊎_elim
        (λ (x : posted_no_later q w.0 ≡ true). let v = o.receives q j (settled_from q t.told t.sure_receive) x f in absurd (t.is_free v.0 v.1 v.3))
        (λ (e : posted_at w.0 ≡ posted_at q). absurd (t.is_free n k (subst (λ (x : Receive). Paired after ms qs n x) (named w.0 q w.1 j e) w.2))) c)
        (first_of_two (posted_at w.0) (posted_at q) (sym a ∙ b)) in
        (w.0, w.1, p, message-keeps n w.0 k w.1 w.2))
        (λ (e : n ≡ m). absurd (not_sent m n s (ap (λ (x : Message). x.name) e)))
        (adds.cases n i);
    receives = λ r i s p f.
        let w = t.first_free r i s p f in
        let g = (pair_obeys after ms qs w.0 r w.2).fit in
        (w.0, adds.old w.0 w.1, adds.behind w.0 w.1 (same_sender w.0 m r (settled_parts r s).0 g f), message-keeps w.0 r w.1 i w.2);
  })

  pub message-taken : (q : Receive) → Has qs q → Paired after more qs m q → TakesMessage after ms qs m q
  message-taken q j h =
      let o = pair_obeys after more qs m q h in
      record {
        told = o.told;
        sure_receive = o.sure_receive;
        sure_message = o.sure_message;
        fit = o.fit;
        no_open = o.no_open;
        is_free = λ n i g.
            let f = (pair_obeys after ms qs n q g).fit in
            let b = adds.behind n i (same_sender n m q o.told f o.fit) in
            one_message after more qs m n q adds.new (adds.old n i) j (sent_earlier m n b) h (message-keeps n q i j g);
        first_free = λ r i s p f.
            let w = o.receives r i s p f in
            let k = ⊎_elim (λ (x : Has ms w.0). x) (λ (e : w.0 ≡ m). let c = ap (λ (x : Message). x.name.call) e in let l = before_lt m w.0 w.2 in absurd (omega arith)) (adds.cases w.0 w.1) in
            (w.0, k, message-adds_none w.0 r k i w.3);
        none_waits = λ n i f.
            let b = adds.behind n i (same_sender n m q o.told f o.fit) in
            let w = o.messages n (adds.old n i) (sent_earlier m n b) f in
            (w.0, w.1, message-adds_none n w.0 i w.1 w.3);
      }

module _ (after : After) (ms : List Message) (qs more call : List Receive) (adds : AddsReceives qs more call) where
  none_posted : (r p : Receive) → Has more r → Has qs p → IsUpTo (posted_at r) (posted_at p) → Has qs r
  none_posted r p i j s =
      ⊎_elim (λ (k : Has qs r). k) (λ (k : Has call r).
      let x = posted_lt r p (adds.behind p r j k (sym s.rank)) in let y = s.call in absurd (omega arith)) (adds.cases r i)

  pub receive-keeps : (n : Message) (r : Receive) → Has ms n → Has qs r → Paired after ms qs n r → Paired after ms more n r
  receive-keeps n r i j h = stays_paired after ms qs ms more (λ n k. k) (λ n p k _ _. k) adds.old none_posted n r i j h

  pub receive-adds_none : (n : Message) (r : Receive) → Has ms n → Has qs r → Paired after ms more n r → Paired after ms qs n r
  receive-adds_none n r i j h = stays_unpaired after ms qs ms more (λ n k. k) (λ n p k _ _. k) adds.old none_posted n r i j h

  pub takes_receive : (m : Message) (q : Receive) → Has ms m → Has call q → AreApart ms → TakesReceive after ms qs more call m q → Paired after ms more m q
  takes_receive m q j c named t = obeys_paired after ms more m q (record {
    told = t.told;
    sure_receive = t.sure_receive;
    sure_message = t.sure_message;
    fit = t.fit;
    no_open = λ u i n p f.
        ⊎_elim (λ (k : Has qs u). t.no_open u k n f) (λ (k : Has call u). t.no_open_part u k n p f) (adds.cases u i);
    messages = λ n i s f.
        let w = t.first_waiting n i s f in
        let g = (pair_obeys after ms qs n w.0 w.2).fit in
        (w.0, adds.old w.0 w.1, adds.behind w.0 q w.1 c (sym (fits_at n w.0 g) ∙ fits_at n q f), receive-keeps n w.0 i w.1 w.2);
    receives = λ r i s p f.
        ⊎_elim
        (λ (k : Has qs r).
        let w = t.none_free r k s f in
        let o = pair_obeys after ms qs w.0 r w.2 in
        let e = same_sender w.0 m r (settled_parts r s).0 o.fit f in
        let b : sent_before w.0 m ≡ true = ⊎_elim (λ (x : sent_before w.0 m ≡ true). x)
        (λ c. ⊎_elim
        (λ (x : sent_no_later m w.0 ≡ true). let v = o.messages m j x f in absurd (t.waits v.0 v.1 v.3))
        (λ (e : sent_at w.0 ≡ sent_at m). absurd (t.waits r k (subst (λ (x : Message). Paired after ms qs x r) (named w.0 m w.1 j e) w.2))) c)
        (first_of_two (sent_at w.0) (sent_at m) e) in
        (w.0, w.1, b, receive-keeps w.0 r w.1 k w.2))
        (λ (k : Has call r). t.parts r k s p f)
        (adds.cases r i);
  })

  pub receive-taken : (m : Message) (q : Receive) → Has ms m → Has call q → Paired after ms more m q → TakesReceive after ms qs more call m q
  receive-taken m q j c h =
      let o = pair_obeys after ms more m q h in
      let at = fits_at m q o.fit in
      record {
        told = o.told;
        sure_receive = o.sure_receive;
        sure_message = o.sure_message;
        fit = o.fit;
        no_open = λ u i n f. o.no_open u (adds.old u i) n (posted_earlier q u (adds.behind u q i c (sym (fits_at m u f) ∙ at))) f;
        waits = λ r i g.
            let f = (pair_obeys after ms qs m r g).fit in
            one_receive after ms more m q r j (adds.new q c) (adds.old r i) (posted_earlier q r (adds.behind r q i c (sym (fits_at m r f) ∙ at))) h (receive-keeps m r j i g);
        first_waiting = λ n i s f.
            let w = o.messages n i s f in
            let k = ⊎_elim (λ (x : Has qs w.0). x) (λ (x : Has call w.0). let e = adds.one_call q w.0 c x in let l = posted_lt q w.0 w.2 in absurd (omega arith)) (adds.cases w.0 w.1) in
            (w.0, k, receive-adds_none n w.0 i k w.3);
        none_free = λ r i s f.
            let w = o.receives r (adds.old r i) s (posted_earlier q r (adds.behind r q i c (sym (fits_at m r f) ∙ at))) f in
            (w.0, w.1, receive-adds_none w.0 r w.1 i w.3);
        no_open_part = λ u i n p f. o.no_open u (adds.new u i) n p f;
        parts = λ r i s p f. o.receives r (adds.new r i) s p f;
      }
