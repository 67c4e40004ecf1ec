-- A pairing of all messages, as a receive comes.
use Rattle.std.proofs.Common.{subst, ◌≡◌, ℕ, zero, suc, ◌+◌, ◌<◌, true, false, List, [], ◌∷◌, ◌++◌, inl, ⊎_elim, sym, refl, ◌∙◌, ap, arith, length, take, get_or, Some, None}
use Rattle.std.proofs.lemmas.List.{take_more, flat_map_more, append-nil}
use Rattle.std.specs.Prelude.{slice_get}
use Rattle.mpi_model.specs.declared.message.Message.{Message}
use Rattle.mpi_model.specs.declared.message.Receive.{Receive}
use Rattle.mpi_model.specs.Trusts.{is_sure, is_open, is_settled}
use Rattle.trace_ops.specs.Ops.{Ops, IsOwn, AreOwn}
use Rattle.trace_ops.specs.Order.{Has}
use Rattle.trace_pair.specs.Calls.{AddsReceives, ArePostedApart, IsPosting, between}
use Rattle.trace_pair.specs.Coupled.{taker_of, receive_by}
use Rattle.trace_pair.specs.Indexed.{AwaitReceives, IsIndexed, couple_of}
use Rattle.trace_pair.specs.After.{comes_after}
use Rattle.trace_pair.specs.Ends.{AreRanked, NoneHides, SomeHides}
use Rattle.trace_pair.specs.Pairing.{After, receive_of}
use Rattle.trace_pair.specs.Queues.{NoneFits, SomeFits}
use Rattle.trace_pair.specs.Rising.{AreRising}
use Rattle.trace_pair.specs.Sets.{AddsTo, DropsFrom}
use Rattle.trace_pair.specs.Settled.{Settles, IsOfferedAt, IsTakenAt, couples_of, waiting_of}
use Rattle.trace_pair.specs.Table.{sends_of, receives_of}
use Rattle.trace_pair.specs.Waiting.{Takings, untaken, with_taker, taker_at, live, couples_with, ArePlain, IsSolePlace}
use Rattle.trace_pair.specs.declared.batch.Batch.{Batch}
use Rattle.trace_pair.specs.declared.ranked_ends.RankedEnds.{RankedEnds}
use Rattle.trace_pair.specs.declared.pair.Couple.{Couple}
use Rattle.trace_pair.specs.declared.pair.Taker.{Taker}
use Rattle.trace_pair.proofs.Alone.{receive_left, receive_taken}
use Rattle.trace_pair.proofs.Fitting.{envelopes_at, false_apart, settled_from, sure_stands}
use Rattle.trace_pair.proofs.Holding.{fewer_apart}
use Rattle.trace_pair.proofs.Listed.{has_take}
use Rattle.trace_pair.proofs.Offers.{none_offered, unsure_offered, hidden_offered, is_offered}
use Rattle.trace_pair.proofs.Known.{told_by}
use Rattle.trace_pair.proofs.Pushes.{absent_receive, awaits_free, put_front, push_receive_open, push_receive_taken, push_receive_free, push_receive_void}
use Rattle.trace_pair.proofs.Owned.{own_calls, all_sends_rise}
use Rattle.trace_pair.proofs.Partners.{partner_is, partner_absent}
use Rattle.trace_pair.proofs.Ranked.{own_at, is_posting}
use Rattle.trace_pair.proofs.Ranks.{has_left, has_right, has_either}
use Rattle.trace_pair.proofs.Searched.{stands}
use Rattle.trace_pair.proofs.Steps.{receive-taken}
use Rattle.trace_pair.proofs.Taken.{taken_drops, taken_adds, taker_there, no_taker, all_wait, none_coupled, none_posted, waits_where}

-- one message stands at a place
pub one_there : (ms : List Message) (place : ℕ) (m n : Message) → slice_get ms place ≡ Some m → slice_get ms place ≡ Some n → m ≡ n
one_there ms place m n e f = cc

-- a receive of a new call is offered the message at a place, or none
module _ (after : After) (ms : List Message) (qs more call : List Receive) (q : Receive) (adds : AddsReceives qs more call) (c : Has call q) where
  pub unsettled_at : is_settled q ≡ false → IsOfferedAt after ms qs more q None
  unsettled_at not m i h = let t = receive-taken after ms qs more call adds m q i c h in false_apart (is_settled q) not (settled_from q t.told t.sure_receive)

  module _ (settled : is_settled q ≡ true) (b : Batch) (free opened : List Receive) (is : b.messages.messages ≡ ms) (held : AwaitReceives after ms qs more (waiting_of b) free opened (couples_of b)) where
    pub no_place : IsSolePlace b.messages q None → IsOfferedAt after ms qs more q None
    no_place none = none_offered after ms qs more call adds q c settled (waiting_of b) free opened (couples_of b) held (none (λ n i. held.senders n (held.waits n i).0))

    pub plain_at : (place : ℕ) → IsSolePlace b.messages q (Some place) → ArePlain b.messages.messages → ((u : Receive) → Has opened u → u.at ≡ q.at → ⊥) → IsOfferedAt after ms qs more q (Some place)
    plain_at place sole plain none = (
      sole.0,
      ap (λ (k : List Message). slice_get k place) (sym is) ∙ sole.1,
      is_offered after ms qs more call adds q c settled (waiting_of b) free opened (couples_of b) held sole.0 sole.2 (plain sole.0 (stands b.messages.messages place sole.0 sole.1)).sure (λ u h f. absurd (none u h (sym (envelopes_at sole.0 u f) ∙ envelopes_at sole.0 q sole.2.fit))),
    )

    module _ (place : ℕ) (m : Message) (sole : IsSolePlace b.messages q (Some place)) (there : slice_get b.messages.messages place ≡ Some m) where
      stands_at : m ≡ sole.0
      stands_at = one_there b.messages.messages place m sole.0 there sole.1

      pub not_sure_at : is_sure m.trust ≡ false → IsOfferedAt after ms qs more q None
      not_sure_at not = unsure_offered after ms qs more call adds q c settled (waiting_of b) free opened (couples_of b) held sole.0 sole.2 (subst (λ (x : Message). is_sure x.trust ≡ false) stands_at not)

      pub open_at : SomeHides after opened m → IsOfferedAt after ms qs more q None
      open_at w = hidden_offered after ms qs more call adds q c settled (waiting_of b) free opened (couples_of b) held sole.0 sole.2 (subst (λ (x : Message). SomeHides after opened x) stands_at w)

      pub offered_at : is_sure m.trust ≡ true → NoneHides after opened m → IsOfferedAt after ms qs more q (Some place)
      offered_at sure none = (
        sole.0,
        ap (λ (k : List Message). slice_get k place) (sym is) ∙ sole.1,
        is_offered after ms qs more call adds q c settled (waiting_of b) free opened (couples_of b) held sole.0 sole.2 (subst (λ (x : Message). is_sure x.trust ≡ true) stands_at sure) (subst (λ (x : Message). NoneHides after opened x) stands_at none),
      )

module _ (after : After) (ms : List Message) (qs : List Receive) (b : Batch) (s : Settles after ms qs b) where
  -- a settled receive that is alone of its call, before it comes
  module _ (more : List Receive) (q : Receive) (adds : AddsReceives qs more (q ∷ [])) (apart : ArePostedApart more) (settled : is_settled q ≡ true) where
    pub awaits_here : AwaitReceives after ms qs more (waiting_of b) (q ∷ b.free) s.opened (couples_of b)
    awaits_here = awaits_free after ms qs more q adds apart _ _ _ _ s.held settled (q ∷ b.free) (put_front b.free q)

    module _ (new : Batch) (kept : new ≡ b) (place : ℕ) (m : Message) (there : slice_get new.messages.messages place ≡ Some m) (offered : IsOfferedAt after ms qs more q (Some place)) where
      stands_there : m ≡ offered.0
      stands_there = one_there ms place m offered.0 (ap (λ (k : List Message). slice_get k place) (sym (ap (λ (x : Batch). x.messages.messages) kept ∙ s.messages)) ∙ there) offered.1

      pub free_at : SomeFits new.free m → IsTakenAt after ms qs more q None
      free_at f =
          let g = subst (λ (x : Batch). SomeFits x.free offered.0) kept (subst (λ (x : Message). SomeFits new.free x) stands_there f) in
          receive_left after ms qs more q adds apart settled _ b.free _ _ _ (put_front b.free q) awaits_here offered.0 offered.2.1
          (λ i. absent_receive after ms qs more q adds apart _ _ _ _ s.held (s.held.frees q i).0) g.0 g.1 g.2

      pub taken_at : NoneFits new.free m → IsTakenAt after ms qs more q (Some place)
      taken_at none = (
        offered.0,
        offered.1,
        offered.2.1,
        receive_taken after ms qs more q adds apart settled _ b.free _ _ _ (put_front b.free q) awaits_here offered.0 offered.2.1
            (subst (λ (x : Batch). NoneFits x.free offered.0) kept (subst (λ (x : Message). NoneFits new.free x) stands_there none)),
      )

  -- the receive that takes the message at a place
  pub receive_there : (place : ℕ) (m : Message) (t : Taker) → slice_get ms place ≡ Some m → Some t ≡ taker_at b.messages place → Some (receive_by m t) ≡ receive_of after ms qs m
  receive_there place m t e h =
      let f : slice_get b.messages.messages place ≡ Some m = ap (λ (l : List Message). slice_get l place) s.messages ∙ e in
      partner_is after ms qs _ _ _ _ s.held m (receive_by m t) (taker_there m t b.messages.messages b.messages.takers place f (sym h))

  pub none_there : (place : ℕ) (m : Message) → slice_get ms place ≡ Some m → None ≡ taker_at b.messages place → None ≡ receive_of after ms qs m
  none_there place m e h =
      let f : slice_get b.messages.messages place ≡ Some m = ap (λ (l : List Message). slice_get l place) s.messages ∙ e in
      partner_absent after ms qs _ _ _ _ s.held m (stands ms place m e)
      (λ q i. no_taker b.messages.messages b.messages.takers place m q (subst (λ (l : List Message). AreRising (λ (m : Message). m.name) l) (sym s.messages) s.rise) f (sym h) i)

-- a message is taken that waits at its place
pub takes_at : (m : Message) (q : Receive) (t : Taker) (b : Batch) (place : ℕ) → AreRising (λ (m : Message). m.name) b.messages.messages → slice_get b.messages.messages place ≡ Some m → Has (waiting_of b) m → q ≡ receive_by m (taker_of q) → t ≡ taker_of q
    → DropsFrom (waiting_of b) (waiting_of (record b { messages = with_taker b.messages place t })) m × AddsTo (couples_of b) (couples_of (record b { messages = with_taker b.messages place t })) (couple_of m q)
takes_at m q t b place rise e waits fit is =
    let w = waits_where b.messages.messages b.messages.takers place m rise e waits in (
      taken_drops m t b.messages.messages b.messages.takers place rise e w,
      subst (λ (r : Receive). AddsTo (couples_of b) (couples_of (record b { messages = with_taker b.messages place t })) (couple_of m r)) (sym (fit ∙ ap (λ (x : Taker). receive_by m x) (sym is))) (taken_adds m t b.messages.messages b.messages.takers place e w),
    )

-- the receive comes, and takes the message at the place
module _ (after : After) (ms : List Message) (qs more : List Receive) (q : Receive) (adds : AddsReceives qs more (q ∷ [])) (apart : ArePostedApart more) (b old : Batch) (same : b ≡ old) (s : Settles after ms qs old) where
  now : Settles after ms qs b
  now = subst (λ (x : Batch). Settles after ms qs x) (sym same) s

  pub adds_taken : is_settled q ≡ true → (place : ℕ) (t : Taker) (new : Takings) → IsTakenAt after ms qs more q (Some place) → t ≡ taker_of q → new ≡ with_taker b.messages place t → Settles after ms more (record b { messages = new })
  adds_taken settled place t new w is made =
      let v = now in
      let offer = w.2 in
      let is_there = ap (λ (l : List Message). slice_get l place) v.messages ∙ w.1 in
      let waits = v.held.waits_all w.0 offer.member (sure_stands w.0.trust offer.sure) offer.waits in
      let u = takes_at w.0 q t b place (subst (λ (l : List Message). AreRising (λ (m : Message). m.name) l) (sym v.messages) v.rise) is_there waits (told_by w.0 q (adds.own q (inl refl)) settled offer.fit) is in
      subst (λ (x : Takings). Settles after ms more (record b { messages = x })) (sym made) (record {
        messages = v.messages;
        rise = v.rise;
        opened = v.opened;
        last = v.last;
        held = push_receive_taken after ms qs more q adds apart _ _ _ _ v.held settled w.0 offer w.3 _ _ u.0 u.1;
      })

  pub adds_free : (new : List Receive) → is_settled q ≡ true → IsTakenAt after ms qs more q None → AddsTo b.free new q → Settles after ms more (record b { free = new })
  adds_free new settled none added = record { messages = now.messages; rise = now.rise; opened = now.opened; last = now.last; held = push_receive_free after ms qs more q adds apart _ _ _ _ now.held settled none new added }

  pub adds_open : (new : RankedEnds) → is_open q ≡ true → ((opened : List Receive) → AreRanked opened b.opened → AreRanked (q ∷ opened) new) → Settles after ms more (record b { opened = new })
  adds_open new is law = record {
    messages = now.messages;
    rise = now.rise;
    opened = q ∷ now.opened;
    last = law now.opened now.last;
    held = push_receive_open after ms qs more q adds apart _ _ _ _ now.held is (q ∷ now.opened) (put_front now.opened q);
  }

  -- a void receive is in none of the sets
  pub adds_void : is_open q ≡ false → is_settled q ≡ false → Settles after ms more b
  adds_void not_open not_settled = record { messages = now.messages; rise = now.rise; opened = now.opened; last = now.last; held = push_receive_void after ms qs more q adds apart _ _ _ _ now.held not_open not_settled }

-- no receive has come
pub settled_none : (os : List Ops) (t : Takings) (free : List Receive) (opened : RankedEnds) → AreOwn 0 os → t ≡ untaken (sends_of os) → free ≡ [] → AreRanked [] opened →
    Settles (comes_after os) (sends_of os) [] (record { messages = t; free = free; opened = opened })
settled_none os t free opened a e f last =
    let ms = sends_of os in
    let after = comes_after os in
    let o = own_calls os a in
    subst (λ (x : Takings). Settles after ms [] (record { messages = x; free = free; opened = opened })) (sym e)
    (subst (λ (x : List Receive). Settles after ms [] (record { messages = untaken ms; free = x; opened = opened })) (sym f)
    (record {
      messages = refl;
      rise = all_sends_rise os 0 a;
      opened = [];
      last = last;
      held = subst (λ (x : List Message). IsIndexed after ms [] x [] [] (couples_with ms (untaken ms).takers)) (sym (all_wait ms))
          (subst (λ (x : List Couple). IsIndexed after ms [] (live ms) [] [] x) (sym (none_coupled ms)) (none_posted after ms o.senders o.messages_apart));
    }))

-- the receives of the next rank, behind those of the ranks before it
pub posts_next : (os : List Ops) (i : ℕ) (n : Ops) → AreOwn 0 os → IsOwn i n → IsPosting (receives_of (take i os)) [] n.receives
posts_next os i n a o = let p = is_posting os i n a o in record { own = p.own; order = p.order; apart_before = p.apart_before; apart_after = λ r q h j e. absurd h }

-- the first receives of a rank stand apart where all do
pub first_apart : (before own : List Receive) (n : ℕ) → ArePostedApart (between before own []) → ArePostedApart (between before (take n own) [])
first_apart before own n apart =
    fewer_apart (between before (take n own) []) (between before own [])
    (λ q i. ⊎_elim
    (λ (j : Has (before ++ take n own) q). has_left (before ++ own) [] q
    (⊎_elim (λ (k : Has before q). has_left before own q k) (λ (k : Has (take n own) q). has_right before own q (has_take own n q k)) (has_either before (take n own) q j)))
    (λ k. absurd k) (has_either (before ++ take n own) [] q i)) apart

-- what the first ranks received is among what all did
received_before : (os : List Ops) (n : ℕ) (q : Receive) → Has (receives_of (take n os)) q → Has (receives_of os) q
received_before [] zero q h = absurd h
received_before [] (suc n) q h = absurd h
received_before (o ∷ os) zero q h = absurd h
received_before (o ∷ os) (suc n) q h =
    ⊎_elim (λ (j : Has o.receives q). has_left o.receives (receives_of os) q j) (λ (j : Has (receives_of (take n os)) q). has_right o.receives (receives_of os) q (received_before os n q j)) (has_either o.receives (receives_of (take n os)) q h)

-- and with them all that the ranks so far received is there
pub ranks_next : (os : List Ops) (i : ℕ) (o : Ops) (own : List Receive) (old new : Batch) → i < length os → AreOwn 0 os → o ≡ get_or os i o → own ≡ o.receives →
    ((ms : List Message) (before : List Receive) → IsPosting before [] own → ArePostedApart (between before own []) → Settles (comes_after os) ms (between before [] []) old → Settles (comes_after os) ms (between before own []) new) →
    Settles (comes_after os) (sends_of os) (receives_of (take i os)) old → Settles (comes_after os) (sends_of os) (receives_of (take (i + 1) os)) new
ranks_next os i o own old new lt a e f law s =
    let ms = sends_of os in
    let after = comes_after os in
    let before = receives_of (take i os) in
    let w : IsOwn i o = subst (λ (p : Ops). IsOwn i p) (sym e) (subst (λ (r : ℕ). IsOwn r (get_or os i o)) (omega arith) (own_at os 0 i o lt a)) in
    let p : IsPosting before [] own = subst (λ (l : List Receive). IsPosting before [] l) (sym f) (posts_next os i o a w) in
    let b : before ≡ between before [] [] = sym (append-nil (before ++ []) ∙ append-nil before) in
    let r : between before own [] ≡ receives_of (take (i + 1) os) =
    append-nil (before ++ own) ∙ ap (λ (l : List Receive). before ++ l) f ∙ flat_map_more (λ (x : Ops). x.receives) [] (take i os) o
    ∙ ap (λ (l : List Ops). receives_of l) (ap (λ (x : Ops). take i os ++ x ∷ []) e ∙ sym (take_more os i o lt)) in
    let all : ArePostedApart (receives_of (take (i + 1) os)) = fewer_apart (receives_of (take (i + 1) os)) (receives_of os) (λ q j. received_before os (i + 1) q j) (own_calls os a).receives_apart in
    subst (λ (l : List Receive). Settles after ms l new) r (law ms before p (subst (λ (l : List Receive). ArePostedApart l) (sym r) all) (subst (λ (l : List Receive). Settles after ms l old) b s))
