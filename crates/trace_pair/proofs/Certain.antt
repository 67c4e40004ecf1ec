-- Each pair is a couple of every legal matching of every continuation.
use Rattle.std.proofs.Common.{subst, ◌≡◌, ◌≢◌, ℕ, zero, suc, ◌+◌, ◌<◌, Bool, true, false, ◌&&◌, List, inl, inr, ⊎_elim, sym, refl, ◌∙◌, ap, arith, ◌⊎◌, ltb, eqb}
use Rattle.std.specs.Prelude.{is_some, not}
use Rattle.std.specs.List.{list_any}
use Rattle.std.proofs.lemmas.Bool.{cases_lt}
use Rattle.std.proofs.lemmas.Bool.Decides.{nat_tests}
use Rattle.mpi_model.specs.declared.event.OpName.{OpName}
use Rattle.mpi_model.specs.declared.message.Message.{Message}
use Rattle.mpi_model.specs.declared.message.Receive.{Receive}
use Rattle.mpi_model.specs.Fit.{fits}
use Rattle.trace_ops.specs.Ops.{TellsMore, SameSend}
use Rattle.trace_ops.specs.Order.{sent_before, posted_before, Has}
use Rattle.trace_pair.specs.Places.{sent_no_later, posted_no_later, sent_together, posted_together}
use Rattle.trace_pair.specs.Matching.{IsLegal, IsTaken, MayBeGivenBack, Continues, SomeOf}
use Rattle.trace_pair.specs.Places.{sent_at, posted_at, earlier, together, no_later}
use Rattle.trace_pair.specs.Calls.{AreApart, ArePostedApart}
use Rattle.trace_pair.specs.Pairing.{After, paired, Paired}
use Rattle.mpi_model.specs.Trusts.{is_doubtful, is_open, is_settled}
use Rattle.trace_pair.proofs.Fitting.{fit_parts, fits_before, fits_after, open_or_settled, settled_from, settled_parts, stands_sure, sure_not_doubtful, one_sender, fits_source, fits_at}
use Rattle.trace_pair.proofs.Obeyed.{any_found, any_of, both, either, or_left, or_right, and_true, not_true-elim, before_lt, posted_lt, sent_le, posted_le, sent_earlier, posted_earlier, pair_obeys, obeys_paired}

pub not_before : (m n : Message) → sent_before n m ≡ true → n.name.call ≡ m.name.call → ⊥
not_before m n h e = let lt = before_lt m n h in absurd (omega arith)

pub not_posted : (q r : Receive) → posted_before r q ≡ true → r.name.call ≡ q.name.call → ⊥
not_posted q r h e = let lt = posted_lt q r h in absurd (omega arith)

-- two names that are one have one call number
pub one_call : (a b : OpName) → a ≡ b → a.call ≡ b.call
one_call a b e = ap (λ (o : OpName). o.call) e

-- a message has one receive, since another that isn't later would want an earlier message
no_two : (k : ℕ) (after : After) (ms : List Message) (qs : List Receive) (m : Message) (q r : Receive) → m.name.call < k → Has ms m → Has qs q → Has qs r → posted_no_later r q ≡ true → Paired after ms qs m q → Paired after ms qs m r → ⊥
no_two zero after ms qs m q r lt i j j' b h g = absurd (omega arith)
no_two (suc k) after ms qs m q r lt i j j' b h g =
    let o = pair_obeys after ms qs m q h in
    let p = pair_obeys after ms qs m r g in
    let n = o.receives r j' (settled_from r p.told p.sure_receive) b p.fit in
    let f = (pair_obeys after ms qs n.0 r n.3).fit in
    let w = p.messages n.0 n.1 (sent_earlier m n.0 n.2) f in
    let x = before_lt m n.0 n.2 in
    no_two k after ms qs n.0 r w.0 (omega arith) n.1 j' w.1 (posted_earlier r w.0 w.2) n.3 w.3

pub one_receive : (after : After) (ms : List Message) (qs : List Receive) (m : Message) (q r : Receive) → Has ms m → Has qs q → Has qs r → posted_no_later r q ≡ true → Paired after ms qs m q → Paired after ms qs m r → ⊥
one_receive after ms qs m q r i j j' b h g = no_two (suc m.name.call) after ms qs m q r (omega arith) i j j' b h g

pub one_message : (after : After) (ms : List Message) (qs : List Receive) (m n : Message) (q : Receive) → Has ms m → Has ms n → Has qs q → sent_no_later n m ≡ true → Paired after ms qs m q → Paired after ms qs n q → ⊥
one_message after ms qs m n q i i' j b h g =
    let o = pair_obeys after ms qs m q h in
    let p = pair_obeys after ms qs n q g in
    let w = o.messages n i' b p.fit in
    one_receive after ms qs n q w.0 i' j w.1 (posted_earlier q w.0 w.2) g w.3

-- another operation of no later call has another name
pub no_later_apart : (a b : OpName) → no_later a b ≡ true → a.call ≡ b.call → a.part ≡ b.part → ⊥
no_later_apart a b h e f =
    ⊎_elim (λ (x : earlier a b ≡ true). let p = (both (eqb a.rank b.rank) (ltb a.call b.call) x).1 in grind (arith, nat_tests))
    (λ (x : together a b ≡ true). let p = (both (eqb a.rank b.rank && eqb a.call b.call) (not (eqb a.part b.part)) x).1 in not_true-elim (eqb a.part b.part) p (grind (arith, nat_tests)))
    (either (earlier a b) (together a b) h)

-- two names that are one have one part
pub one_part : (a b : OpName) → a ≡ b → a.part ≡ b.part
one_part a b e = ap (λ (o : OpName). o.part) e

pub not_sent : (m n : Message) → sent_no_later n m ≡ true → n.name ≡ m.name → ⊥
not_sent m n h e = no_later_apart (sent_at n) (sent_at m) h (one_call n.name m.name e) (one_part n.name m.name e)

pub not_put : (q r : Receive) → posted_no_later r q ≡ true → r.name ≡ q.name → ⊥
not_put q r h e = no_later_apart (posted_at r) (posted_at q) h (one_call r.name q.name e) (one_part r.name q.name e)

pub same_name : (a b : OpName) → a.rank ≡ b.rank → a.call ≡ b.call → a.part ≡ b.part → a ≡ b
same_name a b h g e =
    let f : ℕ → ℕ → ℕ → OpName = λ r c p. record { rank = r; call = c; part = p } in
    ap (λ r. f r a.call a.part) h ∙ ap (λ c. f b.rank c a.part) g ∙ ap (λ p. f b.rank b.call p) e

-- what tells more stands at the same place
same_place : (p r : Receive) → TellsMore p r → posted_at r ≡ posted_at p
same_place p r t = same_name (posted_at r) (posted_at p) t.at (one_call r.name p.name t.name) (one_part r.name p.name t.name)

-- and so does a message of which more is known
same_sender : (m n : Message) → SameSend m n → sent_at n ≡ sent_at m
same_sender m n s = same_name (sent_at n) (sent_at m) s.from (one_call n.name m.name s.name) (one_part n.name m.name s.name)

-- what is no later than another is so of those at the same places
placed : (a b c d : OpName) → a ≡ c → b ≡ d → no_later a b ≡ true → no_later c d ≡ true
placed a b c d e f h = subst (λ (x : OpName). no_later c x ≡ true) f (subst (λ (x : OpName). no_later x b ≡ true) e h)

module _ (after : After) (ms : List Message) (qs : List Receive) (more_after : After) (more_ms : List Message) (more_qs : List Receive) (goes : Continues after ms qs more_after more_ms more_qs) (L : OpName → OpName → Bool) (legal : IsLegal more_after more_ms more_qs (λ m q. L m.name q.name ≡ true)) where
  same_call : (a b c d : OpName) → b ≡ a → b ≡ c → c ≡ d → a.call ≡ d.call
  same_call a b c d e f g = one_call a d (sym e ∙ f ∙ g)

  renamed : (a b c d : OpName) → b ≡ a → d ≡ c → L a c ≡ true → L b d ≡ true
  renamed a b c d e f h = subst (λ (x : OpName). L b x ≡ true) (sym f) (subst (λ (x : OpName). L x c ≡ true) (sym e) h)

  certain_below : (k : ℕ) (m : Message) (q : Receive) → m.name.call + q.name.call < k → Has ms m → Has qs q → Paired after ms qs m q → L m.name q.name ≡ true
  certain_below zero m q lt i j h = absurd (omega arith)
  certain_below (suc k) m q lt i j h =
      let o = pair_obeys after ms qs m q h in
      let v = goes.sent m i in
      let w = goes.posted q j in
      let sure_v = v.2.1 o.sure_message in
      let sure_w = w.2.1 o.sure_receive in
      let told_w : is_some w.0.source ≡ true = subst (λ s. is_some s ≡ true) (sym (w.2.0.source o.told)) o.told in
      let f = fits_after m v.0 q w.0 v.2.0 w.2.0 sure_v sure_w o.told o.fit in
      elim (L m.name q.name) as (λ b. L m.name q.name ≡ b → b ≡ true) [
        | true ↦ λ _. refl
        | false ↦ λ e.
            let no : L v.0.name w.0.name ≡ true → ⊥ = λ g. let g' = renamed v.0.name m.name w.0.name q.name (sym v.2.0.name) (sym w.2.0.name) g in cc in
            ⊎_elim
            (λ (taken : IsTaken more_ms more_qs (λ m q. L m.name q.name ≡ true) v.0 w.0). ⊎_elim
            (λ (t : SomeOf more_qs (λ r. (posted_no_later r w.0 ≡ true) × (L v.0.name r.name ≡ true))).
            let p = goes.none_posted_before t.0 q t.1 j (placed (posted_at t.0) (posted_at w.0) (posted_at t.0) (posted_at q) refl (same_place q w.0 w.2.0) t.2.0) in
            let g = fits_before m v.0 p.0 t.0 v.2.0 p.2.0 (legal.fit v.0 t.0 v.1 t.1 t.2.1) in
            let b = placed (posted_at t.0) (posted_at w.0) (posted_at p.0) (posted_at q) (same_place p.0 t.0 p.2.0) (same_place q w.0 w.2.0) t.2.0 in
            ⊎_elim
            (λ (u : is_open p.0 ≡ true).
            let a = goes.stays_after m v.0 p.0 t.0 i v.1 v.2.0 p.1 t.1 p.2.0 (o.no_open p.0 p.1 u b g) in
            let no_a = legal.not_after v.0 t.0 v.1 t.1 t.2.1 in absurd (cc))
            (λ (s : is_settled p.0 ≡ true).
            let n = o.receives p.0 p.1 s b g in
            let x = before_lt m n.0 n.2 in
            let y = posted_le q p.0 b in
            let c = certain_below k n.0 p.0 (omega arith) n.1 p.1 n.3 in
            let n' = goes.sent n.0 n.1 in
            let c' = renamed n.0.name n'.0.name p.0.name t.0.name n'.2.0.name p.2.0.name c in
            absurd (not_before m n.0 n.2 (same_call n.0.name n'.0.name v.0.name m.name n'.2.0.name (legal.one_message t.0 n'.0 v.0 t.1 n'.1 v.1 c' t.2.1) v.2.0.name)))
            (open_or_settled p.0 (fit_parts m p.0 g).receive_stands))
            (λ d. ⊎_elim
            (λ (t : SomeOf more_ms (λ n. (sent_no_later n v.0 ≡ true) × (L n.name w.0.name ≡ true))).
            let n = goes.none_sent_before t.0 m t.1 i (placed (sent_at t.0) (sent_at v.0) (sent_at t.0) (sent_at m) refl (same_sender m v.0 v.2.0) t.2.0) in
            let g = fits_before n.0 t.0 q w.0 n.2 w.2.0 (legal.fit t.0 w.0 t.1 w.1 t.2.1) in
            let b = placed (sent_at t.0) (sent_at v.0) (sent_at n.0) (sent_at m) (same_sender n.0 t.0 n.2) (same_sender m v.0 v.2.0) t.2.0 in
            let r = o.messages n.0 n.1 b g in
            let x = sent_le m n.0 b in
            let y = posted_lt q r.0 r.2 in
            let c = certain_below k n.0 r.0 (omega arith) n.1 r.1 r.3 in
            let p = goes.posted r.0 r.1 in
            let c' = renamed n.0.name t.0.name r.0.name p.0.name n.2.name p.2.0.name c in
            absurd (not_posted q r.0 r.2 (same_call r.0.name p.0.name w.0.name q.name p.2.0.name (legal.one_receive t.0 p.0 w.0 t.1 p.1 w.1 c' t.2.1) w.2.0.name)))
            (λ (t : SomeOf more_ms (λ n. (n.from ≢ v.0.from) × (L n.name w.0.name ≡ true))).
            let g = legal.fit t.0 w.0 t.1 w.1 t.2.1 in
            absurd (t.2.0 (one_sender w.0.source t.0.from v.0.from told_w (fits_source t.0 w.0 g) (fits_source v.0 w.0 f)))) d) taken)
            (λ (t : MayBeGivenBack more_after more_qs v.0 w.0).
            let before = posted_earlier w.0 t.0 t.2.1 in
            let p = goes.none_posted_before t.0 q t.1 j (placed (posted_at t.0) (posted_at w.0) (posted_at t.0) (posted_at q) refl (same_place q w.0 w.2.0) before) in
            let g = fits_before m v.0 p.0 t.0 v.2.0 p.2.0 t.2.2 in
            let b = placed (posted_at t.0) (posted_at w.0) (posted_at p.0) (posted_at q) (same_place p.0 t.0 p.2.0) (same_place q w.0 w.2.0) before in
            ⊎_elim
            (λ (u : is_open p.0 ≡ true).
            let a = goes.stays_after m v.0 p.0 t.0 i v.1 v.2.0 p.1 t.1 p.2.0 (o.no_open p.0 p.1 u b g) in
            let no_a = t.2.3 in absurd (cc))
            (λ (s : is_settled p.0 ≡ true). absurd (sure_not_doubtful t.0.trust (p.2.1 (settled_parts p.0 s).1) t.2.0))
            (open_or_settled p.0 (fit_parts m p.0 g).receive_stands))
            (legal.progress v.0 w.0 v.1 w.1 f no (λ d. absurd (sure_not_doubtful v.0.trust sure_v d)) (λ d. absurd (sure_not_doubtful w.0.trust sure_w d)))
      ] refl

  pub certain : (m : Message) (q : Receive) → Has ms m → Has qs q → Paired after ms qs m q → L m.name q.name ≡ true
  certain m q i j h = certain_below (suc (m.name.call + q.name.call)) m q (omega arith) i j h

-- Where no receive is open, no message doubtful, and no two parts of a call fit one receive or message, the pairs are a
-- legal matching, and the only one.
earlier_along : (a b c : OpName) → earlier a b ≡ true → no_later b c ≡ true → earlier a c ≡ true
earlier_along a b c h g =
    let p = both (eqb a.rank b.rank) (ltb a.call b.call) h in
    ⊎_elim
    (λ (x : earlier b c ≡ true). let r = both (eqb b.rank c.rank) (ltb b.call c.call) x in
    and_true (eqb a.rank c.rank) (ltb a.call c.call) (grind (arith, nat_tests)) (grind (arith, nat_tests)))
    (λ (x : together b c ≡ true). let r = both (eqb b.rank c.rank) (eqb b.call c.call) (both (eqb b.rank c.rank && eqb b.call c.call) (not (eqb b.part c.part)) x).0 in
    and_true (eqb a.rank c.rank) (ltb a.call c.call) (grind (arith, nat_tests)) (grind (arith, nat_tests)))
    (either (earlier b c) (together b c) g)

pub sent_along : (a b c : Message) → sent_before a b ≡ true → sent_no_later b c ≡ true → sent_before a c ≡ true
sent_along a b c h g = earlier_along (sent_at a) (sent_at b) (sent_at c) h g

pub posted_along : (a b c : Receive) → posted_before a b ≡ true → posted_no_later b c ≡ true → posted_before a c ≡ true
posted_along a b c h g = earlier_along (posted_at a) (posted_at b) (posted_at c) h g

together_from : (a b : OpName) → a.rank ≡ b.rank → a.call ≡ b.call → eqb a.part b.part ≡ false → together a b ≡ true
together_from a b h e f =
    and_true (eqb a.rank b.rank && eqb a.call b.call) (not (eqb a.part b.part))
    (and_true (eqb a.rank b.rank) (eqb a.call b.call) (grind (arith, nat_tests)) (grind (arith, nat_tests))) (rw f refl)

pub in_order : (a b : OpName) → a.rank ≡ b.rank → (no_later a b ≡ true) ⊎ ((no_later b a ≡ true) ⊎ (a ≡ b))
in_order a b h =
    elim (cases_lt a.call b.call) [
      | inl lt ↦ inl (or_left (earlier a b) (together a b) (and_true (eqb a.rank b.rank) (ltb a.call b.call) (grind (arith, nat_tests)) (grind (arith, nat_tests))))
      | inr le ↦ elim (cases_lt b.call a.call) [
        | inl lt ↦ inr (inl (or_left (earlier b a) (together b a) (and_true (eqb b.rank a.rank) (ltb b.call a.call) (grind (arith, nat_tests)) (grind (arith, nat_tests)))))
        | inr ge ↦
            let e : a.call ≡ b.call = omega arith in
            elim (eqb a.part b.part) as (λ x. eqb a.part b.part ≡ x → (no_later a b ≡ true) ⊎ ((no_later b a ≡ true) ⊎ (a ≡ b))) [
              | true ↦ λ p. inr (inr (same_name a b h e (grind (arith, nat_tests))))
              | false ↦ λ p. inl (or_right (earlier a b) (together a b) (together_from a b h e p))
            ] refl
      ]
    ]

-- a message is paired with one receive, and a receive with one message
pub the_one_receive : (after : After) (ms : List Message) (qs : List Receive) → ArePostedApart qs → (m : Message) (q r : Receive) → Has ms m → Has qs q → Has qs r → Paired after ms qs m q → Paired after ms qs m r → q ≡ r
the_one_receive after ms qs apart m q r i j j' h g =
    let a = fits_at m q (pair_obeys after ms qs m q h).fit in let b = fits_at m r (pair_obeys after ms qs m r g).fit in
    ⊎_elim (λ (x : posted_no_later q r ≡ true). absurd (one_receive after ms qs m r q i j' j x g h))
    (λ d. ⊎_elim (λ (x : posted_no_later r q ≡ true). absurd (one_receive after ms qs m q r i j j' x h g)) (λ e. apart q r j j' e) d)
    (in_order (posted_at q) (posted_at r) (sym a ∙ b))

pub the_one_message : (after : After) (ms : List Message) (qs : List Receive) → AreApart ms → (m n : Message) (q : Receive) → Has ms m → Has ms n → Has qs q → Paired after ms qs m q → Paired after ms qs n q → m ≡ n
the_one_message after ms qs apart m n q i i' j h g =
    let o = pair_obeys after ms qs m q h in let p = pair_obeys after ms qs n q g in
    let e = one_sender q.source m.from n.from o.told (fits_source m q o.fit) (fits_source n q p.fit) in
    ⊎_elim (λ (x : sent_no_later m n ≡ true). absurd (one_message after ms qs n m q i' i j x g h))
    (λ d. ⊎_elim (λ (x : sent_no_later n m ≡ true). absurd (one_message after ms qs m n q i i' j x h g)) (λ e. apart m n i i' e) d)
    (in_order (sent_at m) (sent_at n) e)

module _ (after : After) (ms : List Message) (qs : List Receive) (apart : AreApart ms) (posted_apart : ArePostedApart qs)
    (none_open : (q : Receive) → Has qs q → is_open q ≡ false) (none_doubtful : (m : Message) → Has ms m → is_doubtful m.trust ≡ false)
    (one_part_sent : (m n : Message) (q : Receive) → Has ms m → Has ms n → Has qs q → sent_together n m ≡ true → fits m q ≡ true → fits n q ≡ true → ⊥)
    (one_part_posted : (m : Message) (q r : Receive) → Has ms m → Has qs q → Has qs r → posted_together r q ≡ true → fits m q ≡ true → fits m r ≡ true → ⊥) where
  not_open : (q : Receive) → Has qs q → is_open q ≡ true → ⊥
  not_open q j u = let t = none_open q j in cc

  -- what fits is settled, and its message sure
  settled : (m : Message) (q : Receive) → Has qs q → fits m q ≡ true → is_settled q ≡ true
  settled m q j f =
      ⊎_elim (λ (u : is_open q ≡ true). absurd (not_open q j u)) (λ (s : is_settled q ≡ true). s)
      (open_or_settled q (fit_parts m q f).receive_stands)

  -- of what fits one call, another that isn't later is earlier
  earlier_sent : (m n : Message) (q : Receive) → Has ms m → Has ms n → Has qs q → fits m q ≡ true → fits n q ≡ true → sent_no_later n m ≡ true → sent_before n m ≡ true
  earlier_sent m n q i i' j f g b =
      ⊎_elim (λ (x : sent_before n m ≡ true). x) (λ (x : sent_together n m ≡ true). absurd (one_part_sent m n q i i' j x f g))
      (either (sent_before n m) (sent_together n m) b)

  earlier_posted : (m : Message) (q r : Receive) → Has ms m → Has qs q → Has qs r → fits m q ≡ true → fits m r ≡ true → posted_no_later r q ≡ true → posted_before r q ≡ true
  earlier_posted m q r i j j' f g b =
      ⊎_elim (λ (x : posted_before r q ≡ true). x) (λ (x : posted_together r q ≡ true). absurd (one_part_posted m q r i j j' x f g))
      (either (posted_before r q) (posted_together r q) b)

  -- a fitting couple is a pair, or its message or its receive is in a pair with another of an earlier call
  abbrev Found : Message → Receive → Type 0
  Found m q = Paired after ms qs m q ⊎ (SomeOf qs (λ r. (posted_before r q ≡ true) × Paired after ms qs m r) ⊎ SomeOf ms (λ n. (sent_before n m ≡ true) × Paired after ms qs n q))

  taken_below : (k : ℕ) (m : Message) (q : Receive) → m.name.call + q.name.call < k → Has ms m → Has qs q → fits m q ≡ true → Found m q
  taken_below zero m q lt i j f = absurd (omega arith)
  taken_below (suc k) m q lt i j f =
      elim (list_any (λ r. posted_before r q && paired after ms qs m r) qs) as (λ b. list_any (λ r. posted_before r q && paired after ms qs m r) qs ≡ b → Found m q) [
        | true ↦ λ e. let w = any_found (λ r. posted_before r q && paired after ms qs m r) qs e in let p = both (posted_before w.0 q) (paired after ms qs m w.0) w.2 in inr (inl (w.0, w.1, (p.0, p.1)))
        | false ↦ λ no_receive.
            elim (list_any (λ n. sent_before n m && paired after ms qs n q) ms) as (λ b. list_any (λ n. sent_before n m && paired after ms qs n q) ms ≡ b → Found m q) [
              | true ↦ λ e. let w = any_found (λ n. sent_before n m && paired after ms qs n q) ms e in let p = both (sent_before w.0 m) (paired after ms qs w.0 q) w.2 in inr (inr (w.0, w.1, (p.0, p.1)))
              | false ↦ λ no_message.
                  let not_r : (r : Receive) → Has qs r → posted_before r q ≡ true → Paired after ms qs m r → ⊥ = λ r j' b h. let e = any_of (λ r. posted_before r q && paired after ms qs m r) qs r j' (and_true (posted_before r q) (paired after ms qs m r) b h) in cc in
                  let not_n : (n : Message) → Has ms n → sent_before n m ≡ true → Paired after ms qs n q → ⊥ = λ n i' b h. let e = any_of (λ n. sent_before n m && paired after ms qs n q) ms n i' (and_true (sent_before n m) (paired after ms qs n q) b h) in cc in
                  inl (obeys_paired after ms qs m q (record {
                    told = (settled_parts q (settled m q j f)).0;
                    sure_receive = (settled_parts q (settled m q j f)).1;
                    sure_message = stands_sure m.trust (fit_parts m q f).message_stands (none_doubtful m i);
                    fit = f;
                    no_open = λ u i' n _ _. absurd (not_open u i' n);
                    messages = λ n i' l g. let b = earlier_sent m n q i i' j f g l in let x = before_lt m n b in
                        ⊎_elim (λ (h : Paired after ms qs n q). absurd (not_n n i' b h))
                        (λ d. ⊎_elim (λ (h : SomeOf qs (λ r. (posted_before r q ≡ true) × Paired after ms qs n r)). (h.0, h.1, h.2.0, h.2.1))
                        (λ (h : SomeOf ms (λ p. (sent_before p n ≡ true) × Paired after ms qs p q)). absurd (not_n h.0 h.1 (sent_along h.0 n m h.2.0 l) h.2.1)) d)
                        (taken_below k n q (omega arith) i' j g);
                    receives = λ r j' t l g. let b = earlier_posted m q r i j j' f g l in let x = posted_lt q r b in
                        ⊎_elim (λ (h : Paired after ms qs m r). absurd (not_r r j' b h))
                        (λ d. ⊎_elim (λ (h : SomeOf qs (λ p. (posted_before p r ≡ true) × Paired after ms qs m p)). absurd (not_r h.0 h.1 (posted_along h.0 r q h.2.0 l) h.2.1))
                        (λ (h : SomeOf ms (λ n. (sent_before n m ≡ true) × Paired after ms qs n r)). (h.0, h.1, h.2.0, h.2.1)) d)
                        (taken_below k m r (omega arith) i j' g);
                  }))
            ] refl
      ] refl

  pub pairs_legal : ((m : Message) (q : Receive) → Has ms m → Has qs q → Paired after ms qs m q → after m q ≡ false) → IsLegal after ms qs (Paired after ms qs)
  pairs_legal none_after = record {
    one_receive = λ m q r i j j' h g. ap (λ (x : Receive). x.name) (the_one_receive after ms qs posted_apart m q r i j j' h g);
    one_message = λ q m n j i i' h g. ap (λ (x : Message). x.name) (the_one_message after ms qs apart m n q i i' j h g);
    fit = λ m q i j h. (pair_obeys after ms qs m q h).fit;
    not_after = none_after;
    progress = λ m q i j f no _ _. inl (
        ⊎_elim (λ (h : Paired after ms qs m q). absurd (no h))
        (λ d. ⊎_elim (λ (h : SomeOf qs (λ r. (posted_before r q ≡ true) × Paired after ms qs m r)). inl (h.0, h.1, (posted_earlier q h.0 h.2.0, h.2.1)))
        (λ (h : SomeOf ms (λ n. (sent_before n m ≡ true) × Paired after ms qs n q)). inr (inl (h.0, h.1, (sent_earlier m h.0 h.2.0, h.2.1)))) d)
        (taken_below (suc (m.name.call + q.name.call)) m q (omega arith) i j f));
  }

  sends_same : (m : Message) → SameSend m m
  sends_same m = record { name = refl; comm = refl; from = refl; to = refl; tag = refl; mode = refl; count = refl; datatype = refl; void = λ v. v }

  tells_same : (q : Receive) → TellsMore q q
  tells_same q = record { name = refl; comm = refl; at = refl; tag = refl; count = refl; datatype = refl; source = λ _. refl; ended = λ _. refl; void = λ v. v }

  -- of calls at different places each goes on as itself
  stays_after : (m n : Message) (q r : Receive) → Has ms m → Has ms n → SameSend m n → Has qs q → Has qs r → TellsMore q r → after m q ≡ true → after n r ≡ true
  stays_after m n q r i i' s j j' t h =
      let e = apart n m i' i (same_sender m n s) in
      let f = posted_apart r q j' j (same_place q r t) in
      subst (λ (x : Receive). after n x ≡ true) (sym f) (subst (λ (x : Message). after x q ≡ true) (sym e) h)

  stays : Continues after ms qs after ms qs
  stays = record {
    sent = λ m i. (m, i, (sends_same m, λ s. s));
    none_sent_before = λ n m i _ _. (n, i, sends_same n);
    posted = λ q j. (q, j, (tells_same q, λ s. s));
    none_posted_before = λ r q j _ _. (r, j, (tells_same r, λ s. s));
    stays_after = λ m n q r i i' s j j' t h. stays_after m n q r i i' s j j' t h;
  }

  certain_here : (L : OpName → OpName → Bool) → IsLegal after ms qs (λ m q. L m.name q.name ≡ true) → (m : Message) (q : Receive) → Has ms m → Has qs q → Paired after ms qs m q → L m.name q.name ≡ true
  certain_here L legal m q i j h = certain after ms qs after ms qs stays L legal m q i j h

  pub only_legal : (L : OpName → OpName → Bool) → IsLegal after ms qs (λ m q. L m.name q.name ≡ true) → (m : Message) (q : Receive) → Has ms m → Has qs q → L m.name q.name ≡ true → Paired after ms qs m q
  only_legal L legal m q i j h =
      ⊎_elim (λ (g : Paired after ms qs m q). g)
      (λ d. ⊎_elim
      (λ (g : SomeOf qs (λ r. (posted_before r q ≡ true) × Paired after ms qs m r)).
      absurd (not_posted q g.0 g.2.0 (one_call g.0.name q.name (legal.one_receive m g.0 q i g.1 j (certain_here L legal m g.0 i g.1 g.2.1) h))))
      (λ (g : SomeOf ms (λ n. (sent_before n m ≡ true) × Paired after ms qs n q)).
      absurd (not_before m g.0 g.2.0 (one_call g.0.name m.name (legal.one_message q g.0 m j g.1 i (certain_here L legal g.0 q g.1 j g.2.1) h)))) d)
      (taken_below (suc (m.name.call + q.name.call)) m q (omega arith) i j (legal.fit m q i j h))
