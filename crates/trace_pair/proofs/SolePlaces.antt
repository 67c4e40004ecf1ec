-- Places at the key of a receive, the first of which holds the first message that waits and fits it.
use Rattle.std.proofs.Common.{subst, ◌≡◌, ℕ, zero, ◌<◌, Bool, true, false, List, [], ◌∷◌, inl, inr, ⊎_elim, sym, refl, ◌∙◌, ap, arith, cond, eqb, Option, Some, None}
use Rattle.std.proofs.lemmas.Bool.Decides.{nat_tests}
use Rattle.std.specs.Prelude.{slice_get, is_some}
use Rattle.std.specs.declared.cmp.Ordering.{Ordering}
use Rattle.mpi_model.specs.declared.event.OpName.{OpName}
use Rattle.mpi_model.specs.declared.message.Message.{Message}
use Rattle.mpi_model.specs.declared.message.Receive.{Receive}
use Rattle.mpi_model.specs.Fit.{envelopes_fit}
use Rattle.trace_ops.specs.Order.{Has}
use Rattle.trace_pair.specs.Calls.{is_live, IsOwnMessage}
use Rattle.trace_pair.specs.Indexed.{IsSoleMessage, name_lt}
use Rattle.trace_pair.specs.Places.{earlier, together, no_later}
use Rattle.trace_pair.specs.Rising.{AreRising}
use Rattle.trace_pair.specs.Waiting.{left_in, waits_at, waiting_in, from_waiting, is_of_call, is_followed, call_at, sole_of, sole_or_first, places_at, AreRisingPlaces, ArePlaces, ArePlain, IsSolePlace, Keyed}
use Rattle.trace_pair.specs.declared.pair.Taker.{Taker}
use Rattle.trace_pair.proofs.Certain.{no_later_apart, one_call, one_part}
use Rattle.trace_pair.proofs.Fitting.{one_sender}
use Rattle.trace_pair.proofs.Obeyed.{either}
use Rattle.trace_pair.proofs.Queued.{fit_parts}
use Rattle.trace_pair.proofs.Taken.{left_found, left_there, live_has, live_was}
use Rattle.trace_pair.proofs.Searched.{stands}
use Rattle.trace_pair.proofs.Waited.{stays, was, still_rise, front_waits, rising_at}

-- At the places stand messages that fit the receive, in their order, among them all that wait; the one in front does.
pub record IsLine (ms : List Message) (ts : List (Option Taker)) (q : Receive) (ps : List ℕ) : Type 0 where
  pub all : (n : Message) → Has (waiting_in ms ts) n → envelopes_fit n q ≡ true → (j : ℕ) × (slice_get ms j ≡ Some n) × (waits_at ts j ≡ true) × Has ps j
  pub own : (j : ℕ) → Has ps j → (n : Message) × (slice_get ms j ≡ Some n) × (is_live n.trust ≡ true) × (envelopes_fit n q ≡ true)
  pub rise : AreRisingPlaces ps
  pub front : (i : ℕ) → slice_get ps zero ≡ Some i → waits_at ts i ≡ true

pub line_at : {K : Type 0} (cmp : K → K → Ordering) (key_of : Message → K) (ms : List Message) (ts : List (Option Taker)) (places : Keyed K) → ArePlaces cmp key_of ms ts places
    → (q : Receive) (k : K) → ((m : Message) → envelopes_fit m q ≡ true → k ≡ key_of m) → ((m : Message) → k ≡ key_of m → envelopes_fit m q ≡ true) → IsLine ms ts q (from_waiting ts (places_at cmp places k))
line_at {K = K} cmp key_of ms ts places are q k at fit = record {
  all = λ n h f.
      let v = live_was (left_in ms ts) n h in
      let w = left_found ms ts n v.0 in
      let i : Has (places_at cmp places k) w.0 = subst (λ (x : K). Has (places_at cmp places x) w.0) (sym (at n f)) (are.all w.0 n w.1 v.1 w.2) in
      (w.0, w.1, w.2, stays ts (places_at cmp places k) w.0 w.2 i);
  own = λ j h. let o = are.own k j (was ts (places_at cmp places k) j h) in (o.0, o.1, o.3, fit o.0 (sym o.2));
  rise = still_rise ts (places_at cmp places k) (are.rise k);
  front = λ i e. front_waits ts (places_at cmp places k) i e;
}

-- a name between two of one call is of that call too
between_names : (a b c : OpName) → name_lt a b ≡ true → name_lt b c ≡ true → eqb a.rank c.rank ≡ true → a.call ≡ c.call → (eqb a.rank b.rank ≡ true) × (b.call ≡ a.call)
between_names a b c h g e f = (grind (arith, nat_tests), grind (arith, nat_tests))

-- a later name that counts as no later is of the call
behind_no_later : (a b : OpName) → name_lt a b ≡ true → no_later b a ≡ true → b.call ≡ a.call
behind_no_later a b h g =
    ⊎_elim (λ (y : earlier b a ≡ true). absurd (grind (arith, nat_tests)))
    (λ (y : together b a ≡ true). grind (arith, nat_tests))
    (either (earlier b a) (together b a) g)

no_later_rank : (a b : OpName) → no_later a b ≡ true → eqb b.rank a.rank ≡ true
no_later_rank a b g =
    ⊎_elim (λ (y : earlier a b ≡ true). grind (arith, nat_tests))
    (λ (y : together a b ≡ true). grind (arith, nat_tests))
    (either (earlier a b) (together a b) g)

behind_together : (a b : OpName) → name_lt a b ≡ true → a.rank ≡ b.rank → b.call ≡ a.call → no_later b a ≡ true
behind_together a b h e f = grind (arith, nat_tests)

earlier_name : (a b : OpName) → name_lt a b ≡ true → a.rank ≡ b.rank → no_later a b ≡ true
earlier_name a b h e = grind (arith, nat_tests)

-- of two first parts of one rank the later is of another call
other_call : (a b : OpName) → name_lt a b ≡ true → a.rank ≡ b.rank → a.part ≡ 0 → b.part ≡ 0 → b.call ≡ a.call → ⊥
other_call a b h e f g d = grind (arith, nat_tests)

module _ (ms : List Message) (ts : List (Option Taker)) where
  of_its_call : (j : ℕ) (n : Message) → slice_get ms j ≡ Some n → (c : ℕ) → n.name.call ≡ c → is_of_call ms j c ≡ true
  of_its_call j n e c f = grind (arith, nat_tests)

  from_its_call : (j : ℕ) (n : Message) → slice_get ms j ≡ Some n → (c : ℕ) → is_of_call ms j c ≡ true → n.name.call ≡ c
  from_its_call j n e c f = grind (arith, nat_tests)

  -- what follows in a call and waits is found
  finds_follower : (c : ℕ) (ps : List ℕ) (j : ℕ) → ((i : ℕ) → Has ps i → i < j → is_of_call ms i c ≡ true) → AreRisingPlaces ps → Has ps j → waits_at ts j ≡ true → is_of_call ms j c ≡ true → is_followed ms ts c ps ≡ true
  finds_follower c [] j of rise h w g = absurd h
  finds_follower c (i ∷ ps) j of rise h w g =
      ⊎_elim
      (λ (e : j ≡ i).
      let a : is_of_call ms i c ≡ true = subst (λ (k : ℕ). is_of_call ms k c ≡ true) e g in
      let b : waits_at ts i ≡ true = subst (λ (k : ℕ). waits_at ts k ≡ true) e w in
      ap (λ x. cond x (cond (waits_at ts i) true (is_followed ms ts c ps)) false) a ∙ ap (λ x. cond x true (is_followed ms ts c ps)) b)
      (λ (k : Has ps j).
      let a = of i (inl refl) (rise.0 j k) in
      let b = finds_follower c ps j (λ x y lt. of x (inr y) lt) rise.1 k w g in
      ap (λ x. cond x (cond (waits_at ts i) true (is_followed ms ts c ps)) false) a ∙ ap (λ x. cond (waits_at ts i) true x) b ∙ either_true (waits_at ts i)) h
    where
      either_true : (x : Bool) → cond x true true ≡ true
      either_true true = refl
      either_true false = refl

  follower : (c : ℕ) (ps : List ℕ) → is_followed ms ts c ps ≡ true → (j : ℕ) × Has ps j × (waits_at ts j ≡ true) × (is_of_call ms j c ≡ true)
  follower c [] h = absurd (cc)
  follower c (i ∷ ps) h =
      elim (is_of_call ms i c) as (λ b. is_of_call ms i c ≡ b → cond b (cond (waits_at ts i) true (is_followed ms ts c ps)) false ≡ true → (j : ℕ) × Has (i ∷ ps) j × (waits_at ts j ≡ true) × (is_of_call ms j c ≡ true)) [
        | true ↦ λ e g. elim (waits_at ts i) as (λ b. waits_at ts i ≡ b → cond b true (is_followed ms ts c ps) ≡ true → (j : ℕ) × Has (i ∷ ps) j × (waits_at ts j ≡ true) × (is_of_call ms j c ≡ true)) [
          | true ↦ λ f k. (i, inl refl, f, e)
          | false ↦ λ f k. let w = follower c ps k in (w.0, inr w.1, w.2, w.3)
        ] refl g
        | false ↦ λ e g. absurd (cc)
      ] refl h

  module _ (rise : AreRising (λ (m : Message). m.name) ms) (q : Receive) where
    module _ (i : ℕ) (ps : List ℕ) (line : IsLine ms ts q (i ∷ ps)) where
      abbrev front : Message
      front = (line.own i (inl refl)).0

      waits : Has (waiting_in ms ts) front
      waits = let o = line.own i (inl refl) in live_has (left_in ms ts) o.0 (left_there ms ts i o.0 o.1 (line.front i refl)) o.2

      its_call : call_at ms i ≡ front.name.call
      its_call = let e = (line.own i (inl refl)).1 in cc

      -- where none of its call waits behind it, the one in front is the sole one
      is_sole : is_followed ms ts (call_at ms i) ps ≡ false → IsSoleMessage (waiting_in ms ts) q front
      is_sole none = record {
        member = waits;
        fit = (line.own i (inl refl)).3;
        sole = λ n h f l.
            let w = line.all n h f in
            ⊎_elim
            (λ (e : w.0 ≡ i).
            let s : n ≡ front = let a = subst (λ (k : ℕ). slice_get ms k ≡ Some n) e w.1 in let b = (line.own i (inl refl)).1 in cc in
            let d = ap (λ (x : Message). x.name) s in
            no_later_apart n.name front.name l (one_call n.name front.name d) (one_part n.name front.name d))
            (λ (k : Has ps w.0).
            let lt : name_lt front.name n.name ≡ true = rising_at ms i w.0 front n rise (line.own i (inl refl)).1 w.1 (line.rise.0 w.0 k) in
            let same = behind_no_later front.name n.name lt l in
            let of : (j : ℕ) → Has ps j → j < w.0 → is_of_call ms j (call_at ms i) ≡ true = λ j x less.
            let o = line.own j (inr x) in
            let b = between_names front.name o.0.name n.name (rising_at ms i j front o.0 rise (line.own i (inl refl)).1 o.1 (line.rise.0 j x)) (rising_at ms j w.0 o.0 n rise o.1 w.1 less) (no_later_rank n.name front.name l) (sym same) in
            of_its_call j o.0 o.1 (call_at ms i) (b.1 ∙ sym its_call) in
            let g = finds_follower (call_at ms i) ps w.0 of line.rise.1 k w.2 (of_its_call w.0 n w.1 (call_at ms i) (same ∙ sym its_call)) in
            absurd (cc)) w.3;
      }

      -- and where one does, there is no sole one
      none_sole : is_some q.source ≡ true → ((n : Message) → Has (waiting_in ms ts) n → IsOwnMessage n) → is_followed ms ts (call_at ms i) ps ≡ true → (m : Message) → IsSoleMessage (waiting_in ms ts) q m → ⊥
      none_sole told owned some m s =
          let first = line.own i (inl refl) in
          let w = line.all m s.member s.fit in
          let f = follower (call_at ms i) ps some in
          let o = line.own f.0 (inr f.1) in
          let n = o.0 in
          let there : Has (waiting_in ms ts) n = live_has (left_in ms ts) n (left_there ms ts f.0 n o.1 f.2) o.2 in
          let rank : (x : Message) → Has (waiting_in ms ts) x → envelopes_fit x q ≡ true → front.name.rank ≡ x.name.rank = λ x k g.
          owned front waits ∙ one_sender q.source front.from x.from told (fit_parts front q first.3).2 (fit_parts x q g).2 ∙ sym (owned x k) in
          ⊎_elim
          (λ (e : w.0 ≡ i).
          let same : m ≡ front = let a = subst (λ (k : ℕ). slice_get ms k ≡ Some m) e w.1 in let b = first.1 in cc in
          let lt = rising_at ms i f.0 front n rise first.1 o.1 (line.rise.0 f.0 f.1) in
          let later = behind_together front.name n.name lt (rank n there o.3) (from_its_call f.0 n o.1 (call_at ms i) f.3 ∙ its_call) in
          s.sole n there o.3 (subst (λ (x : Message). no_later n.name x.name ≡ true) (sym same) later))
          (λ (k : Has ps w.0).
          let lt = rising_at ms i w.0 front m rise first.1 w.1 (line.rise.0 w.0 k) in
          s.sole front waits first.3 (earlier_name front.name m.name lt (rank m s.member s.fit))) w.3

  pub sole_in : AreRising (λ (m : Message). m.name) ms → (q : Receive) → is_some q.source ≡ true → (ps : List ℕ) → IsLine ms ts q ps → (o : Option ℕ) → o ≡ sole_of ms ts ps → IsSolePlace (record { messages = ms; takers = ts }) q o
  sole_in rise q told [] line o e = subst (λ (x : Option ℕ). IsSolePlace (record { messages = ms; takers = ts }) q x) (sym e) (λ owned m s. (line.all m s.member s.fit).3)
  sole_in rise q told (i ∷ ps) line o e =
      subst (λ (x : Option ℕ). IsSolePlace (record { messages = ms; takers = ts }) q x) (sym e)
      (elim (is_followed ms ts (call_at ms i) ps) as (λ b. is_followed ms ts (call_at ms i) ps ≡ b → IsSolePlace (record { messages = ms; takers = ts }) q (cond b None (Some i))) [
        | true ↦ λ f owned m s. none_sole rise q i ps line told owned f m s
        | false ↦ λ f. let o = line.own i (inl refl) in (o.0, o.1, is_sole rise q i ps line f)
      ] refl)

  -- where each message is alone of its call, the place in front is the one
  first_is_sole : AreRising (λ (m : Message). m.name) ms → ArePlain ms → (q : Receive) → is_some q.source ≡ true → (ps : List ℕ) → IsLine ms ts q ps → slice_get ps zero ≡ sole_of ms ts ps
  first_is_sole rise plain q told [] line = refl
  first_is_sole rise plain q told (i ∷ []) line = refl
  first_is_sole rise plain q told (i ∷ j ∷ ps) line =
      let a = line.own i (inl refl) in
      let b = line.own j (inr (inl refl)) in
      let p = plain a.0 (stands ms i a.0 a.1) in
      let r = plain b.0 (stands ms j b.0 b.1) in
      let lt : name_lt a.0.name b.0.name ≡ true = rising_at ms i j a.0 b.0 rise a.1 b.1 (line.rise.0 j (inl refl)) in
      let rank : a.0.name.rank ≡ b.0.name.rank = p.own ∙ one_sender q.source a.0.from b.0.from told (fit_parts a.0 q a.3).2 (fit_parts b.0 q b.3).2 ∙ sym r.own in
      let its : call_at ms i ≡ a.0.name.call = let e = a.1 in cc in
      let other : is_of_call ms j (call_at ms i) ≡ false =
      elim (is_of_call ms j (call_at ms i)) as (λ x. is_of_call ms j (call_at ms i) ≡ x → x ≡ false) [
        | true ↦ λ e. absurd (other_call a.0.name b.0.name lt rank p.first r.first (from_its_call j b.0 b.1 (call_at ms i) e ∙ its))
        | false ↦ λ e. refl
      ] refl in
      sym (ap (λ (x : Bool). cond (cond x (cond (waits_at ts j) true (is_followed ms ts (call_at ms i) ps)) false) None (Some i)) other)

  pub sole_if_first : AreRising (λ (m : Message). m.name) ms → (marked : Bool) → (marked ≡ true → ArePlain ms) → (q : Receive) → is_some q.source ≡ true → (ps : List ℕ) → IsLine ms ts q ps
      → sole_or_first marked ms ts ps ≡ sole_of ms ts ps
  sole_if_first rise true plain q told ps line = first_is_sole rise (plain refl) q told ps line
  sole_if_first rise false plain q told ps line = refl
