-- Messages that nothing takes, those of them that wait, and messages with what takes them, as one is taken.
use Rattle.std.proofs.Common.{subst, ◌≡◌, ℕ, zero, suc, true, false, List, [], ◌∷◌, inl, inr, ⊎_elim, sym, refl, ◌∙◌, ap, ◌⊎◌, cond, Option, Some, None, length}
use Rattle.std.specs.Prelude.{slice_get, slice_set, replicate}
use Rattle.mpi_model.specs.declared.message.Message.{Message}
use Rattle.mpi_model.specs.declared.message.Receive.{Receive}
use Rattle.trace_ops.specs.Order.{Has}
use Rattle.trace_pair.specs.Calls.{is_live, IsOwnMessage, AreApart}
use Rattle.trace_pair.specs.Coupled.{receive_by}
use Rattle.trace_pair.specs.Indexed.{IsIndexed, couple_of}
use Rattle.trace_pair.specs.Pairing.{After}
use Rattle.trace_pair.specs.Rising.{AreRising}
use Rattle.trace_pair.specs.Sets.{AddsTo, DropsFrom}
use Rattle.trace_pair.specs.Waiting.{left_in, live, waiting_in, couples_with, waits_at, taker_in}
use Rattle.trace_pair.specs.declared.pair.Couple.{Couple}
use Rattle.trace_pair.specs.declared.pair.Taker.{Taker}
use Rattle.trace_pair.proofs.Listed.{name_apart}
use Rattle.trace_pair.proofs.Searched.{stands}

-- what nothing takes stands at a place
pub left_found : (ms : List Message) (ts : List (Option Taker)) (m : Message) → Has (left_in ms ts) m → (i : ℕ) × (slice_get ms i ≡ Some m) × (waits_at ts i ≡ true)
left_found [] ts m h = absurd h
left_found (n ∷ ms) [] m h = absurd h
left_found (n ∷ ms) (None ∷ ts) m h =
    ⊎_elim (λ (e : m ≡ n). (zero, ap (λ (x : Message). Some x) (sym e), refl)) (λ (j : Has (left_in ms ts) m). let w = left_found ms ts m j in (suc w.0, w.1, w.2)) h
left_found (n ∷ ms) (Some t ∷ ts) m h = let w = left_found ms ts m h in (suc w.0, w.1, w.2)

pub left_there : (ms : List Message) (ts : List (Option Taker)) (i : ℕ) (m : Message) → slice_get ms i ≡ Some m → waits_at ts i ≡ true → Has (left_in ms ts) m
left_there [] ts i m e h = absurd (cc)
left_there (n ∷ ms) [] i m e h = absurd (cc)
left_there (n ∷ ms) (None ∷ ts) zero m e h = inl (cc)
left_there (n ∷ ms) (None ∷ ts) (suc i) m e h = inr (left_there ms ts i m e h)
left_there (n ∷ ms) (Some t ∷ ts) zero m e h = absurd (cc)
left_there (n ∷ ms) (Some t ∷ ts) (suc i) m e h = left_there ms ts i m e h

waits_among : (ms : List Message) (ts : List (Option Taker)) (m : Message) → Has (left_in ms ts) m → Has ms m
waits_among ms ts m h = let w = left_found ms ts m h in stands ms w.0 m w.1

coupled_among : (ms : List Message) (ts : List (Option Taker)) (c : Couple) → Has (couples_with ms ts) c → Has ms c.message
coupled_among [] ts c h = absurd h
coupled_among (n ∷ ms) [] c h = absurd h
coupled_among (n ∷ ms) (None ∷ ts) c h = inr (coupled_among ms ts c h)
coupled_among (n ∷ ms) (Some t ∷ ts) c h = ⊎_elim (λ (e : c ≡ couple_of n (receive_by n t)). inl (ap (λ (d : Couple). d.message) e)) (λ (j : Has (couples_with ms ts) c). inr (coupled_among ms ts c j)) h

-- of some messages those that are not void
pub live_has : (xs : List Message) (m : Message) → Has xs m → is_live m.trust ≡ true → Has (live xs) m
live_has [] m h l = absurd h
live_has (x ∷ xs) m h l =
    elim (is_live x.trust) as (λ b. is_live x.trust ≡ b → Has (cond b (x ∷ live xs) (live xs)) m) [
      | true ↦ λ e. ⊎_elim (λ (d : m ≡ x). inl d) (λ (j : Has xs m). inr (live_has xs m j l)) h
      | false ↦ λ e. ⊎_elim (λ (d : m ≡ x). absurd (let f = subst (λ (y : Message). is_live y.trust ≡ true) d l in cc)) (λ (j : Has xs m). live_has xs m j l) h
    ] refl

pub live_was : (xs : List Message) (m : Message) → Has (live xs) m → Has xs m × (is_live m.trust ≡ true)
live_was [] m h = absurd h
live_was (x ∷ xs) m h =
    elim (is_live x.trust) as (λ b. is_live x.trust ≡ b → Has (cond b (x ∷ live xs) (live xs)) m → Has (x ∷ xs) m × (is_live m.trust ≡ true)) [
      | true ↦ λ e i. ⊎_elim (λ (d : m ≡ x). (inl d, subst (λ (y : Message). is_live y.trust ≡ true) (sym d) e)) (λ (j : Has (live xs) m). let w = live_was xs m j in (inr w.0, w.1)) i
      | false ↦ λ e i. let w = live_was xs m i in (inr w.0, w.1)
    ] refl h

live_drops : (xs ys : List Message) (m : Message) → DropsFrom xs ys m → DropsFrom (live xs) (live ys) m
live_drops xs ys m d = record {
  keeps = λ y i. let w = live_was xs y i in ⊎_elim (λ (k : Has ys y). inl (live_has ys y k w.1)) (λ (e : y ≡ m). inr e) (d.keeps y w.0);
  dropped = λ i. d.dropped (live_was ys m i).0;
  was = λ y i. let w = live_was ys y i in live_has xs y (d.was y w.0) w.1;
}

-- a message stands once among those that rise
once : (n m : Message) (ms : List Message) → AreRising (λ (m : Message). m.name) (n ∷ ms) → Has ms m → m ≡ n → ⊥
once n m ms rise i e = name_apart n.name m.name (rise.0 m i) (ap (λ (x : Message). x.name) (sym e))

left_where : (ms : List Message) (ts : List (Option Taker)) (i : ℕ) (m : Message) → AreRising (λ (m : Message). m.name) ms → slice_get ms i ≡ Some m → Has (left_in ms ts) m → waits_at ts i ≡ true
left_where [] ts i m rise e h = absurd h
left_where (n ∷ ms) [] i m rise e h = absurd h
left_where (n ∷ ms) (None ∷ ts) zero m rise e h = refl
left_where (n ∷ ms) (None ∷ ts) (suc i) m rise e h =
    ⊎_elim (λ (d : m ≡ n). absurd (once n m ms rise (stands ms i m e) d)) (λ (j : Has (left_in ms ts) m). left_where ms ts i m rise.1 e j) h
left_where (n ∷ ms) (Some t ∷ ts) zero m rise e h = absurd (once n m ms rise (waits_among ms ts m h) (cc))
left_where (n ∷ ms) (Some t ∷ ts) (suc i) m rise e h = left_where ms ts i m rise.1 e h

-- at the place of a message that waits stands nothing that takes it
pub waits_where : (ms : List Message) (ts : List (Option Taker)) (i : ℕ) (m : Message) → AreRising (λ (m : Message). m.name) ms → slice_get ms i ≡ Some m → Has (waiting_in ms ts) m → waits_at ts i ≡ true
waits_where ms ts i m rise e h = left_where ms ts i m rise e (live_was (left_in ms ts) m h).0

module _ (m : Message) (t : Taker) where
  waits_or_is : (ms : List Message) (ts : List (Option Taker)) (p : ℕ) (y : Message) → slice_get ms p ≡ Some m → Has (left_in ms ts) y → Has (left_in ms (slice_set ts p (Some t))) y ⊎ (y ≡ m)
  waits_or_is [] ts p y e h = absurd h
  waits_or_is (n ∷ ms) [] p y e h = absurd h
  waits_or_is (n ∷ ms) (None ∷ ts) zero y e h = ⊎_elim (λ (d : y ≡ n). inr (cc)) (λ (j : Has (left_in ms ts) y). inl j) h
  waits_or_is (n ∷ ms) (None ∷ ts) (suc p) y e h =
      ⊎_elim (λ (d : y ≡ n). inl (inl d))
      (λ (j : Has (left_in ms ts) y). ⊎_elim (λ (k : Has (left_in ms (slice_set ts p (Some t))) y). inl (inr k)) (λ (d : y ≡ m). inr d) (waits_or_is ms ts p y e j)) h
  waits_or_is (n ∷ ms) (Some s ∷ ts) zero y e h = inl h
  waits_or_is (n ∷ ms) (Some s ∷ ts) (suc p) y e h = waits_or_is ms ts p y e h

  waited : (ms : List Message) (ts : List (Option Taker)) (p : ℕ) (y : Message) → Has (left_in ms (slice_set ts p (Some t))) y → Has (left_in ms ts) y
  waited [] ts p y h = absurd h
  waited (n ∷ ms) [] p y h = absurd h
  waited (n ∷ ms) (None ∷ ts) zero y h = inr h
  waited (n ∷ ms) (None ∷ ts) (suc p) y h = ⊎_elim (λ (d : y ≡ n). inl d) (λ (j : Has (left_in ms (slice_set ts p (Some t))) y). inr (waited ms ts p y j)) h
  waited (n ∷ ms) (Some s ∷ ts) zero y h = h
  waited (n ∷ ms) (Some s ∷ ts) (suc p) y h = waited ms ts p y h

  waits_no_more : (ms : List Message) (ts : List (Option Taker)) (p : ℕ) → AreRising (λ (m : Message). m.name) ms → slice_get ms p ≡ Some m → waits_at ts p ≡ true → Has (left_in ms (slice_set ts p (Some t))) m → ⊥
  waits_no_more [] ts p rise e w h = absurd h
  waits_no_more (n ∷ ms) [] p rise e w h = absurd h
  waits_no_more (n ∷ ms) (None ∷ ts) zero rise e w h = once n m ms rise (waits_among ms ts m h) (cc)
  waits_no_more (n ∷ ms) (None ∷ ts) (suc p) rise e w h =
      ⊎_elim (λ (d : m ≡ n). once n m ms rise (stands ms p m e) d) (λ (j : Has (left_in ms (slice_set ts p (Some t))) m). waits_no_more ms ts p rise.1 e w j) h
  waits_no_more (n ∷ ms) (Some s ∷ ts) zero rise e w h = absurd (cc)
  waits_no_more (n ∷ ms) (Some s ∷ ts) (suc p) rise e w h = waits_no_more ms ts p rise.1 e w h

  taken_leaves : (ms : List Message) (ts : List (Option Taker)) (p : ℕ) → AreRising (λ (m : Message). m.name) ms → slice_get ms p ≡ Some m → waits_at ts p ≡ true →
      DropsFrom (left_in ms ts) (left_in ms (slice_set ts p (Some t))) m
  taken_leaves ms ts p rise e w = record {
    keeps = λ y i. waits_or_is ms ts p y e i;
    dropped = λ i. waits_no_more ms ts p rise e w i;
    was = λ y i. waited ms ts p y i;
  }

  -- a message that is taken waits no longer
  pub taken_drops : (ms : List Message) (ts : List (Option Taker)) (p : ℕ) → AreRising (λ (m : Message). m.name) ms → slice_get ms p ≡ Some m → waits_at ts p ≡ true →
      DropsFrom (waiting_in ms ts) (waiting_in ms (slice_set ts p (Some t))) m
  taken_drops ms ts p rise e w = live_drops (left_in ms ts) (left_in ms (slice_set ts p (Some t))) m (taken_leaves ms ts p rise e w)

  stays_coupled : (ms : List Message) (ts : List (Option Taker)) (p : ℕ) (c : Couple) → waits_at ts p ≡ true → Has (couples_with ms ts) c → Has (couples_with ms (slice_set ts p (Some t))) c
  stays_coupled [] ts p c w h = absurd h
  stays_coupled (n ∷ ms) [] p c w h = absurd h
  stays_coupled (n ∷ ms) (None ∷ ts) zero c w h = inr h
  stays_coupled (n ∷ ms) (None ∷ ts) (suc p) c w h = stays_coupled ms ts p c w h
  stays_coupled (n ∷ ms) (Some s ∷ ts) zero c w h = absurd (cc)
  stays_coupled (n ∷ ms) (Some s ∷ ts) (suc p) c w h =
      ⊎_elim (λ (e : c ≡ couple_of n (receive_by n s)). inl e) (λ (j : Has (couples_with ms ts) c). inr (stays_coupled ms ts p c w j)) h

  is_coupled : (ms : List Message) (ts : List (Option Taker)) (p : ℕ) → slice_get ms p ≡ Some m → waits_at ts p ≡ true → Has (couples_with ms (slice_set ts p (Some t))) (couple_of m (receive_by m t))
  is_coupled [] ts p e w = absurd (cc)
  is_coupled (n ∷ ms) [] p e w = absurd (cc)
  is_coupled (n ∷ ms) (None ∷ ts) zero e w = let d : m ≡ n = cc in inl (ap (λ (x : Message). couple_of x (receive_by x t)) d)
  is_coupled (n ∷ ms) (None ∷ ts) (suc p) e w = is_coupled ms ts p e w
  is_coupled (n ∷ ms) (Some s ∷ ts) zero e w = absurd (cc)
  is_coupled (n ∷ ms) (Some s ∷ ts) (suc p) e w = inr (is_coupled ms ts p e w)

  was_coupled : (ms : List Message) (ts : List (Option Taker)) (p : ℕ) (c : Couple) → slice_get ms p ≡ Some m → waits_at ts p ≡ true → Has (couples_with ms (slice_set ts p (Some t))) c →
      Has (couples_with ms ts) c ⊎ (c ≡ couple_of m (receive_by m t))
  was_coupled [] ts p c e w h = absurd h
  was_coupled (n ∷ ms) [] p c e w h = absurd h
  was_coupled (n ∷ ms) (None ∷ ts) zero c e w h =
      let d : n ≡ m = cc in
      ⊎_elim (λ (f : c ≡ couple_of n (receive_by n t)). inr (subst (λ (x : Message). c ≡ couple_of x (receive_by x t)) d f)) (λ (j : Has (couples_with ms ts) c). inl j) h
  was_coupled (n ∷ ms) (None ∷ ts) (suc p) c e w h = was_coupled ms ts p c e w h
  was_coupled (n ∷ ms) (Some s ∷ ts) zero c e w h = absurd (cc)
  was_coupled (n ∷ ms) (Some s ∷ ts) (suc p) c e w h =
      ⊎_elim (λ (f : c ≡ couple_of n (receive_by n s)). inl (inl f))
      (λ (j : Has (couples_with ms (slice_set ts p (Some t))) c). ⊎_elim (λ (k : Has (couples_with ms ts) c). inl (inr k)) (λ f. inr f) (was_coupled ms ts p c e w j)) h

  -- and is in a couple now
  pub taken_adds : (ms : List Message) (ts : List (Option Taker)) (p : ℕ) → slice_get ms p ≡ Some m → waits_at ts p ≡ true →
      AddsTo (couples_with ms ts) (couples_with ms (slice_set ts p (Some t))) (couple_of m (receive_by m t))
  taken_adds ms ts p e w = record {
    keeps = λ c i. stays_coupled ms ts p c w i;
    added = is_coupled ms ts p e w;
    cases = λ c i. was_coupled ms ts p c e w i;
  }

  -- what stands at the place of a message takes it
  pub taker_there : (ms : List Message) (ts : List (Option Taker)) (i : ℕ) → slice_get ms i ≡ Some m → taker_in (slice_get ts i) ≡ Some t → Has (couples_with ms ts) (couple_of m (receive_by m t))
  taker_there [] ts i e h = absurd (cc)
  taker_there (n ∷ ms) [] i e h = absurd (cc)
  taker_there (n ∷ ms) (None ∷ ts) zero e h = absurd (cc)
  taker_there (n ∷ ms) (None ∷ ts) (suc i) e h = taker_there ms ts i e h
  taker_there (n ∷ ms) (Some s ∷ ts) zero e h =
      let d : m ≡ n = cc in let f : t ≡ s = cc in
      inl (ap (λ (x : Message). couple_of x (receive_by x t)) d ∙ ap (λ (x : Taker). couple_of n (receive_by n x)) f)
  taker_there (n ∷ ms) (Some s ∷ ts) (suc i) e h = inr (taker_there ms ts i e h)

pub no_taker : (ms : List Message) (ts : List (Option Taker)) (i : ℕ) (m : Message) (q : Receive) → AreRising (λ (m : Message). m.name) ms → slice_get ms i ≡ Some m → taker_in (slice_get ts i) ≡ None → Has (couples_with ms ts) (couple_of m q) → ⊥
no_taker [] ts i m q rise e h j = absurd j
no_taker (n ∷ ms) [] i m q rise e h j = absurd j
no_taker (n ∷ ms) (None ∷ ts) zero m q rise e h j = once n m ms rise (coupled_among ms ts (couple_of m q) j) (cc)
no_taker (n ∷ ms) (None ∷ ts) (suc i) m q rise e h j = no_taker ms ts i m q rise.1 e h j
no_taker (n ∷ ms) (Some s ∷ ts) zero m q rise e h j = absurd (cc)
no_taker (n ∷ ms) (Some s ∷ ts) (suc i) m q rise e h j =
    ⊎_elim (λ (f : couple_of m q ≡ couple_of n (receive_by n s)). once n m ms rise (stands ms i m e) (ap (λ (c : Couple). c.message) f))
    (λ (k : Has (couples_with ms ts) (couple_of m q)). no_taker ms ts i m q rise.1 e h k) j

-- where nothing was taken all messages wait that are not void
all_left : (ms : List Message) → left_in ms (replicate (length ms) None) ≡ ms
all_left [] = refl
all_left (m ∷ ms) = ap (λ (l : List Message). m ∷ l) (all_left ms)

pub all_wait : (ms : List Message) → waiting_in ms (replicate (length ms) None) ≡ live ms
all_wait ms = ap live (all_left ms)

pub none_coupled : (ms : List Message) → couples_with ms (replicate (length ms) None) ≡ []
none_coupled [] = refl
none_coupled (m ∷ ms) = none_coupled ms

pub none_posted : (after : After) (ms : List Message) → ((m : Message) → Has ms m → IsOwnMessage m) → AreApart ms → IsIndexed after ms [] (live ms) [] [] []
none_posted after ms senders apart = record {
  senders = senders;
  receivers = λ q i. absurd i;
  messages_apart = apart;
  receives_apart = λ q r i j e. absurd i;
  waits = λ m i. let w = live_was ms m i in (w.0, w.1, λ q j h. absurd j);
  waits_all = λ m i l u. live_has ms m i l;
  frees = λ q i. absurd i;
  frees_all = λ q i t u. absurd i;
  opens = λ q i. absurd i;
  opens_all = λ q i t. absurd i;
  coupled = λ c i. absurd i;
  coupled_all = λ m q i j h. absurd j;
}
