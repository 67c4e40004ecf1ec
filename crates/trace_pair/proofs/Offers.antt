-- What a receive of a new call is offered, by the sets of an index.
use Rattle.std.proofs.Common.{subst, ◌≡◌, ◌≤◌, true, false, List, ⊎_elim, sym, refl, ◌∙◌, arith, Some, None}
use Rattle.mpi_model.specs.declared.event.OpName.{OpName}
use Rattle.mpi_model.specs.declared.message.Message.{Message}
use Rattle.mpi_model.specs.declared.message.Receive.{Receive}
use Rattle.mpi_model.specs.Fit.{envelopes_fit, fits}
use Rattle.mpi_model.specs.Trusts.{is_sure, is_open, is_settled}
use Rattle.trace_ops.specs.Order.{Has, sent_before, posted_before}
use Rattle.trace_pair.specs.Calls.{is_live, AddsReceives, IsOwnMessage, IsOwnReceive}
use Rattle.trace_pair.specs.Ends.{NoneHides, SomeHides}
use Rattle.trace_pair.specs.Indexed.{AwaitReceives, IsOfferedMessage, IsSoleMessage}
use Rattle.trace_pair.specs.Pairing.{After, paired, Paired}
use Rattle.trace_pair.specs.Places.{sent_at, posted_at, earlier, together, no_later, sent_no_later, posted_no_later}
use Rattle.trace_pair.specs.declared.pair.Couple.{Couple}
use Rattle.trace_pair.proofs.Certain.{same_name}
use Rattle.trace_pair.proofs.Fitting.{envelope_of, false_apart, fits_at, fits_live, live_message, open_live, settled_live, settled_not_open, settled_parts, sure_stands}
use Rattle.trace_pair.proofs.Obeyed.{any_or_none, or_left, posted_le}
use Rattle.trace_pair.proofs.ReceiveParts.{parts_apart}
use Rattle.trace_pair.proofs.Steps.{same_sender, first_of_two, receive-keeps, receive-adds_none, receive-taken}

sent_as_named : (m : Message) → IsOwnMessage m → sent_at m ≡ m.name
sent_as_named m o = same_name (sent_at m) m.name (sym o) refl refl

posted_as_named : (q : Receive) → IsOwnReceive q → posted_at q ≡ q.name
posted_as_named q o = same_name (posted_at q) q.name (sym o) refl refl

pub sent_named : (n m : Message) → IsOwnMessage n → IsOwnMessage m → sent_no_later n m ≡ true → no_later n.name m.name ≡ true
sent_named n m o p h = subst (λ (x : OpName). no_later n.name x ≡ true) (sent_as_named m p) (subst (λ (x : OpName). no_later x (sent_at m) ≡ true) (sent_as_named n o) h)

pub sent_from_named : (n m : Message) → IsOwnMessage n → IsOwnMessage m → no_later n.name m.name ≡ true → sent_no_later n m ≡ true
sent_from_named n m o p h = subst (λ (x : OpName). no_later (sent_at n) x ≡ true) (sym (sent_as_named m p)) (subst (λ (x : OpName). no_later x m.name ≡ true) (sym (sent_as_named n o)) h)

pub posted_named : (r q : Receive) → IsOwnReceive r → IsOwnReceive q → posted_no_later r q ≡ true → no_later r.name q.name ≡ true
posted_named r q o p h = subst (λ (x : OpName). no_later r.name x ≡ true) (posted_as_named q p) (subst (λ (x : OpName). no_later x (posted_at q) ≡ true) (posted_as_named r o) h)

-- a receive whose call isn't later, and that is another one, is no later
pub up_to_no_later : (u q : Receive) → u.at ≡ q.at → u.name.call ≤ q.name.call → (posted_at u ≡ posted_at q → ⊥) → posted_no_later u q ≡ true
up_to_no_later u q e le not =
    ⊎_elim (λ (x : posted_before u q ≡ true). or_left (earlier (posted_at u) (posted_at q)) (together (posted_at u) (posted_at q)) x)
    (λ d. ⊎_elim (λ (x : posted_no_later q u ≡ true). let ge = posted_le u q x in parts_apart (posted_at u) (posted_at q) e (omega arith) not)
    (λ (same : posted_at u ≡ posted_at q). absurd (not same)) d)
    (first_of_two (posted_at u) (posted_at q) e)

module _ (after : After) (ms : List Message) (qs more call : List Receive) (adds : AddsReceives qs more call) (q : Receive) (c : Has call q) (settled : is_settled q ≡ true)
    (waiting : List Message) (free opened : List Receive) (couples : List Couple) (held : AwaitReceives after ms qs more waiting free opened couples) where
  fits_waiting : (m : Message) → Has waiting m → envelopes_fit m q ≡ true → fits m q ≡ true
  fits_waiting m i f = fits_live m q (held.waits m i).1 (settled_live q settled) f

  -- a message that waits is in no pair of the receives that were there
  unpaired : (m : Message) → Has waiting m → (r : Receive) → Has qs r → Paired after ms qs m r → ⊥
  unpaired m i r k h = let v = held.waits m i in v.2 r (adds.old r k) (receive-keeps after ms qs more call adds m r v.0 k h, k)

  -- and one that is not void and is in none waits
  waits_then : (n : Message) → Has ms n → is_live n.trust ≡ true → ((r : Receive) → Has qs r → Paired after ms qs n r → ⊥) → Has waiting n
  waits_then n i l none = held.waits_all n i l (λ r j h. none r h.1 (receive-adds_none after ms qs more call adds n r i h.1 h.0))

  is_sole : (n : Message) → Has ms n → Paired after ms more n q → IsSoleMessage waiting q n
  is_sole n i h =
      let t = receive-taken after ms qs more call adds n q i c h in
      record {
        member = waits_then n i (sure_stands n.trust t.sure_message) t.waits;
        fit = envelope_of n q t.fit;
        sole = λ x k f l. let w = t.first_waiting x (held.waits x k).0 (sent_from_named x n (held.senders x (held.waits x k).0) (held.senders n i) l) (fits_waiting x k f) in unpaired x k w.0 w.1 w.2;
      }

  one_sole : (m n : Message) → IsSoleMessage waiting q m → IsSoleMessage waiting q n → m ≡ n
  one_sole m n f g =
      let a = held.waits m f.member in let b = held.waits n g.member in
      ⊎_elim (λ (x : sent_before m n ≡ true). absurd (g.sole m f.member f.fit (sent_named m n (held.senders m a.0) (held.senders n b.0) (or_left (earlier (sent_at m) (sent_at n)) (together (sent_at m) (sent_at n)) x))))
      (λ d. ⊎_elim (λ (x : sent_no_later n m ≡ true). absurd (f.sole n g.member g.fit (sent_named n m (held.senders n b.0) (held.senders m a.0) x)))
      (λ (e : sent_at m ≡ sent_at n). held.messages_apart m n a.0 b.0 e) d)
      (first_of_two (sent_at m) (sent_at n) (same_sender m n q (settled_parts q settled).0 (fits_waiting m f.member f.fit) (fits_waiting n g.member g.fit)))

  pub none_offered : ((n : Message) → IsSoleMessage waiting q n → ⊥) → IsOfferedMessage after ms qs more q None
  none_offered none n i h = none n (is_sole n i h)

  module _ (m : Message) (f : IsSoleMessage waiting q m) where
    pub unsure_offered : is_sure m.trust ≡ false → IsOfferedMessage after ms qs more q None
    unsure_offered not n i h =
        let t = receive-taken after ms qs more call adds n q i c h in
        false_apart (is_sure m.trust) not (subst (λ (x : Message). is_sure x.trust ≡ true) (one_sole n m (is_sole n i h) f) t.sure_message)

    pub hidden_offered : SomeHides after opened m → IsOfferedMessage after ms qs more q None
    hidden_offered w n i h =
        let t = receive-taken after ms qs more call adds n q i c h in
        let e = one_sole n m (is_sole n i h) f in
        let o = held.opens w.0 w.1 in
        let g : fits n w.0 ≡ true = subst (λ (x : Message). fits x w.0 ≡ true) (sym e) (fits_live m w.0 (held.waits m f.member).1 (open_live w.0 o.1) w.2) in
        let a : after n w.0 ≡ true =
        ⊎_elim (λ (k : Has qs w.0). t.no_open w.0 k o.1 g)
        (λ (k : Has call w.0). t.no_open_part w.0 k o.1
        (parts_apart (posted_at w.0) (posted_at q) (sym (fits_at n w.0 g) ∙ fits_at n q t.fit) (adds.one_call q w.0 c k)
        (λ (same : posted_at w.0 ≡ posted_at q). let d = held.receives_apart w.0 q o.0 (adds.new q c) same in settled_not_open q settled (subst (λ (x : Receive). is_open x ≡ true) d o.1))) g) (adds.cases w.0 o.0) in
        false_apart (after m w.0) w.3 (subst (λ (x : Message). after x w.0 ≡ true) e a)

    pub is_offered : is_sure m.trust ≡ true → NoneHides after opened m → IsOfferedMessage after ms qs more q (Some m)
    is_offered sure none = (
      settled,
      record {
        member = (held.waits m f.member).0;
        sure = sure;
        fit = fits_waiting m f.member f.fit;
        waits = unpaired m f.member;
        first_waiting = λ n i p g.
            ⊎_elim (λ (w : (r : Receive) × Has qs r × Paired after ms qs n r). w)
            (λ (away : (r : Receive) → Has qs r → Paired after ms qs n r → ⊥).
            absurd (f.sole n (waits_then n i (live_message n q g) away) (envelope_of n q g) (sent_named n m (held.senders n i) (held.senders m (held.waits m f.member).0) p)))
            (any_or_none (paired after ms qs n) qs);
        no_open = λ u i o g. none u (held.opens_all u i o) (envelope_of m u g);
      },
    )
