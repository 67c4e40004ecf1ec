-- Places of messages at keys, as one comes, as some are passed, and as a message is taken.
use Rattle.std.proofs.Common.{subst, ◌≡◌, ℕ, zero, suc, ◌+◌, ◌<◌, Bool, true, false, List, [], ◌∷◌, ◌++◌, inl, inr, ⊎_elim, sym, refl, ◌∙◌, ap, arith, ◌⊎◌, cond, Option, Some, None, Result, Ok, Err, length, drop, take}
use Rattle.std.proofs.lemmas.List.{length-take-le}
use Rattle.std.specs.Prelude.{slice_get, slice_set, IfOk}
use Rattle.std.specs.declared.cmp.Ordering.{Ordering}
use Rattle.std.specs.Ordering.{is_eq}
use Rattle.std.specs.Cmp.{IsTotalOrder}
use Rattle.std.proofs.lemmas.Cmp.{tied_itself}
use Rattle.std.proofs.lemmas.Map.Lookups.{CmpEqualImpliesEq}
use Rattle.std.proofs.lemmas.Map.Views.{tells_apart}
use Rattle.std.proofs.lemmas.Option.{slice_get_within}
use Rattle.mpi_model.specs.declared.message.Message.{Message}
use Rattle.trace_ops.specs.Order.{Has}
use Rattle.trace_pair.specs.Calls.{is_live}
use Rattle.trace_pair.specs.Indexed.{name_lt}
use Rattle.trace_pair.specs.Rising.{AreRising}
use Rattle.trace_pair.specs.Waiting.{waits_at, from_waiting, is_followed, call_at, sole_or_first, places_at, AreRisingPlaces, ArePlaces, ArePlain, IsPlain, Keyed}
use Rattle.trace_pair.specs.declared.pair.Taker.{Taker}
use Rattle.trace_pair.proofs.Ranks.{has_left, has_right, has_either}
use Rattle.trace_pair.proofs.Searched.{stands}
use Rattle.trace_pair.proofs.Tabled.{take_there}

pub if_ok : {X E : Type 0} {P Q : X → Type 0} (r : Result X E) → ((x : X) → P x → Q x) → IfOk r P → IfOk r Q
if_ok (Ok x) f h = f x h
if_ok (Err e) f h = tt

module _ (ts : List (Option Taker)) where
  pub stays : (ps : List ℕ) (i : ℕ) → waits_at ts i ≡ true → Has ps i → Has (from_waiting ts ps) i
  stays [] i w h = absurd h
  stays (j ∷ ps) i w h =
      elim (waits_at ts j) as (λ b. waits_at ts j ≡ b → Has (cond b (j ∷ ps) (from_waiting ts ps)) i) [
        | true ↦ λ e. h
        | false ↦ λ e. ⊎_elim (λ (d : i ≡ j). let f : waits_at ts j ≡ true = subst (λ (k : ℕ). waits_at ts k ≡ true) d w in absurd (cc)) (λ (k : Has ps i). stays ps i w k) h
      ] refl

  pub was : (ps : List ℕ) (i : ℕ) → Has (from_waiting ts ps) i → Has ps i
  was [] i h = absurd h
  was (j ∷ ps) i h =
      elim (waits_at ts j) as (λ b. Has (cond b (j ∷ ps) (from_waiting ts ps)) i → Has (j ∷ ps) i) [
        | true ↦ λ k. k
        | false ↦ λ k. inr (was ps i k)
      ] h

  pub still_rise : (ps : List ℕ) → AreRisingPlaces ps → AreRisingPlaces (from_waiting ts ps)
  still_rise [] r = tt
  still_rise (j ∷ ps) r =
      elim (waits_at ts j) as (λ b. AreRisingPlaces (cond b (j ∷ ps) (from_waiting ts ps))) [
        | true ↦ r
        | false ↦ still_rise ps r.1
      ]

  pub front_waits : (ps : List ℕ) (p : ℕ) → slice_get (from_waiting ts ps) zero ≡ Some p → waits_at ts p ≡ true
  front_waits [] p e = absurd (cc)
  front_waits (j ∷ ps) p e =
      elim (waits_at ts j) as (λ b. waits_at ts j ≡ b → slice_get (cond b (j ∷ ps) (from_waiting ts ps)) zero ≡ Some p → waits_at ts p ≡ true) [
        | true ↦ λ h g. let d : j ≡ p = cc in subst (λ (k : ℕ). waits_at ts k ≡ true) d h
        | false ↦ λ h g. front_waits ps p g
      ] refl e

  -- some of the places were passed, if any
  stays_if : (b : Bool) (xs ys : List ℕ) (i : ℕ) → ys ≡ cond b (from_waiting ts xs) xs → waits_at ts i ≡ true → Has xs i → Has ys i
  stays_if true xs ys i e w h = subst (λ (l : List ℕ). Has l i) (sym e) (stays xs i w h)
  stays_if false xs ys i e w h = subst (λ (l : List ℕ). Has l i) (sym e) h

  was_if : (b : Bool) (xs ys : List ℕ) (i : ℕ) → ys ≡ cond b (from_waiting ts xs) xs → Has ys i → Has xs i
  was_if true xs ys i e h = was xs i (subst (λ (l : List ℕ). Has l i) e h)
  was_if false xs ys i e h = subst (λ (l : List ℕ). Has l i) e h

  rise_if : (b : Bool) (xs ys : List ℕ) → ys ≡ cond b (from_waiting ts xs) xs → AreRisingPlaces xs → AreRisingPlaces ys
  rise_if true xs ys e r = subst (λ (l : List ℕ). AreRisingPlaces l) (sym e) (still_rise xs r)
  rise_if false xs ys e r = subst (λ (l : List ℕ). AreRisingPlaces l) (sym e) r

-- a place at which nothing waits is passed
pub passes_front : (ts : List (Option Taker)) (xs old new : List ℕ) (p : ℕ) → Some p ≡ slice_get xs zero → waits_at ts p ≡ false → new ≡ drop 1 xs → from_waiting ts xs ≡ from_waiting ts old → from_waiting ts new ≡ from_waiting ts old
passes_front ts [] old new p e w n h = absurd (cc)
passes_front ts (x ∷ xs) old new p e w n h =
    let d : p ≡ x = cc in
    let v : waits_at ts x ≡ false = subst (λ (y : ℕ). waits_at ts y ≡ false) d w in
    ap (λ (l : List ℕ). from_waiting ts l) n ∙ ap (λ b. cond b (x ∷ xs) (from_waiting ts xs)) (sym v) ∙ h

-- and one at which a message waits stays in front
pub stays_front : (ts : List (Option Taker)) (xs old : List ℕ) (p : ℕ) → Some p ≡ slice_get xs zero → waits_at ts p ≡ true → from_waiting ts xs ≡ from_waiting ts old → xs ≡ from_waiting ts old
stays_front ts [] old p e w h = absurd (cc)
stays_front ts (x ∷ xs) old p e w h =
    let d : p ≡ x = cc in
    let v : waits_at ts x ≡ true = subst (λ (y : ℕ). waits_at ts y ≡ true) d w in
    ap (λ b. cond b (x ∷ xs) (from_waiting ts xs)) (sym v) ∙ h

pub front_of : (ts : List (Option Taker)) (xs old : List ℕ) (p : ℕ) → Some p ≡ slice_get xs zero → waits_at ts p ≡ true → from_waiting ts xs ≡ from_waiting ts old → Some p ≡ slice_get (from_waiting ts old) zero
front_of ts xs old p e w h = e ∙ ap (λ (l : List ℕ). slice_get l zero) (stays_front ts xs old p e w h)

pub all_passed : (ts : List (Option Taker)) (xs old : List ℕ) → None ≡ slice_get xs zero → from_waiting ts xs ≡ from_waiting ts old → xs ≡ from_waiting ts old
all_passed ts [] old e h = h
all_passed ts (x ∷ xs) old e h = absurd (cc)

-- the place that is told: the first, or where calls may have several parts, the sole one
pub none_first : (plain : Bool) (ms : List Message) (ts : List (Option Taker)) (ps : List ℕ) → None ≡ slice_get ps zero → None ≡ sole_or_first plain ms ts ps
none_first true ms ts ps e = e
none_first false ms ts [] e = refl
none_first false ms ts (i ∷ ps) e = absurd (cc)

pub plain_first : (plain : Bool) (ms : List Message) (ts : List (Option Taker)) (ps : List ℕ) (p : ℕ) → plain ≡ true → Some p ≡ slice_get ps zero → Some p ≡ sole_or_first plain ms ts ps
plain_first true ms ts ps p h e = e
plain_first false ms ts ps p h e = absurd (cc)

told_one : (b : Bool) (ms : List Message) (ts : List (Option Taker)) (ps : List ℕ) (p : ℕ) → Some p ≡ slice_get ps zero → b ≡ is_followed ms ts (call_at ms p) (drop 1 ps) → cond b None (Some p) ≡ sole_or_first false ms ts ps
told_one b ms ts [] p e f = absurd (cc)
told_one b ms ts (i ∷ ps) p e f =
    let d : p ≡ i = cc in
    ap (λ (x : ℕ). cond b None (Some x)) d ∙ ap (λ (x : Bool). cond x None (Some i)) (f ∙ ap (λ (x : ℕ). is_followed ms ts (call_at ms x) ps) d)

pub followed_first : (plain : Bool) (ms : List Message) (ts : List (Option Taker)) (ps rest : List ℕ) (p call : ℕ) → plain ≡ false → Some p ≡ slice_get ps zero → rest ≡ ps → call ≡ call_at ms p
    → (b c : Bool) → b ≡ is_followed ms ts call (drop 1 rest) → b ≡ c → cond c None (Some p) ≡ sole_or_first plain ms ts ps
followed_first plain ms ts ps rest p call h e r d b c f g =
    let made : c ≡ is_followed ms ts (call_at ms p) (drop 1 ps) = sym g ∙ f ∙ ap (λ (l : List ℕ). is_followed ms ts call (drop 1 l)) r ∙ ap (λ (x : ℕ). is_followed ms ts x (drop 1 ps)) d in
    told_one c ms ts ps p e made ∙ ap (λ (x : Bool). sole_or_first x ms ts ps) (sym h)

-- a place more
more_rise : (xs : List ℕ) (n : ℕ) → AreRisingPlaces xs → ((i : ℕ) → Has xs i → i < n) → AreRisingPlaces (xs ++ n ∷ [])
more_rise [] n r b = (λ j h. absurd h, tt)
more_rise (x ∷ xs) n r b = (
  λ j h. ⊎_elim (λ (k : Has xs j). r.0 j k) (λ (k : Has (n ∷ []) j). ⊎_elim (λ (e : j ≡ n). subst (λ (y : ℕ). x < y) (sym e) (b x (inl refl))) (λ f. absurd f) k) (has_either xs (n ∷ []) j h),
  more_rise xs n r.1 (λ i h. b i (inr h)),
)

-- messages that rise in their places
pub rising_at : (ms : List Message) (i j : ℕ) (m n : Message) → AreRising (λ (m : Message). m.name) ms → slice_get ms i ≡ Some m → slice_get ms j ≡ Some n → i < j → name_lt m.name n.name ≡ true
rising_at [] i j m n r e f lt = absurd (cc)
rising_at (x ∷ ms) zero zero m n r e f lt = absurd (omega arith)
rising_at (x ∷ ms) zero (suc j) m n r e f lt = let d : x ≡ m = cc in subst (λ (y : Message). name_lt y.name n.name ≡ true) d (r.0 n (stands ms j n f))
rising_at (x ∷ ms) (suc i) zero m n r e f lt = absurd (omega arith)
rising_at (x ∷ ms) (suc i) (suc j) m n r e f lt = rising_at ms i j m n r.1 e f (omega arith)

-- the message behind the others, or one of these
last_or_old : (ms : List Message) (x : Message) (i : ℕ) (m : Message) → slice_get (ms ++ x ∷ []) i ≡ Some m → (slice_get ms i ≡ Some m) ⊎ ((i ≡ length ms) × (m ≡ x))
last_or_old [] x zero m e = inr (refl, cc)
last_or_old [] x (suc i) m e = absurd (cc)
last_or_old (y ∷ ms) x zero m e = inl e
last_or_old (y ∷ ms) x (suc i) m e =
    ⊎_elim (λ (f : slice_get ms i ≡ Some m). inl f) (λ (w : (i ≡ length ms) × (m ≡ x)). inr (ap suc w.0, w.1)) (last_or_old ms x i m e)

still_there : (ms : List Message) (x : Message) (i : ℕ) (m : Message) → slice_get ms i ≡ Some m → slice_get (ms ++ x ∷ []) i ≡ Some m
still_there [] x i m e = absurd (cc)
still_there (y ∷ ms) x zero m e = e
still_there (y ∷ ms) x (suc i) m e = still_there ms x i m e

last_there : (ms : List Message) (x : Message) → slice_get (ms ++ x ∷ []) (length ms) ≡ Some x
last_there [] x = refl
last_there (y ∷ ms) x = last_there ms x

module _ {K : Type 0} {cmp : K → K → Ordering} (keys : IsTotalOrder cmp) (exact : CmpEqualImpliesEq cmp) (key_of : Message → K) where
  -- places were passed at a key
  pub places_passed : (ms : List Message) (ts : List (Option Taker)) (old new : Keyed K) (key : K) → ArePlaces cmp key_of ms ts old →
      ((k : K) → places_at cmp new k ≡ cond (is_eq (cmp key k)) (from_waiting ts (places_at cmp old k)) (places_at cmp old k)) → ArePlaces cmp key_of ms ts new
  places_passed ms ts old new key are law = record {
    all = λ i m e l w. stays_if ts (is_eq (cmp key (key_of m))) (places_at cmp old (key_of m)) (places_at cmp new (key_of m)) i (law (key_of m)) w (are.all i m e l w);
    own = λ k i h. are.own k i (was_if ts (is_eq (cmp key k)) (places_at cmp old k) (places_at cmp new k) i (law k) h);
    rise = λ k. rise_if ts (is_eq (cmp key k)) (places_at cmp old k) (places_at cmp new k) (law k) (are.rise k);
  }

  added_left : (b : Bool) (xs ys : List ℕ) (n i : ℕ) → ys ≡ cond b (xs ++ n ∷ []) xs → Has xs i → Has ys i
  added_left true xs ys n i e h = subst (λ (l : List ℕ). Has l i) (sym e) (has_left xs (n ∷ []) i h)
  added_left false xs ys n i e h = subst (λ (l : List ℕ). Has l i) (sym e) h

  added_here : (b : Bool) (xs ys : List ℕ) (n : ℕ) → ys ≡ cond b (xs ++ n ∷ []) xs → b ≡ true → Has ys n
  added_here true xs ys n e h = subst (λ (l : List ℕ). Has l n) (sym e) (has_right xs (n ∷ []) n (inl refl))
  added_here false xs ys n e h = absurd (cc)

  added_cases : (b : Bool) (xs ys : List ℕ) (n i : ℕ) → ys ≡ cond b (xs ++ n ∷ []) xs → Has ys i → Has xs i ⊎ ((b ≡ true) × (i ≡ n))
  added_cases true xs ys n i e h =
      ⊎_elim (λ (k : Has xs i). inl k) (λ (k : Has (n ∷ []) i). ⊎_elim (λ (f : i ≡ n). inr (refl, f)) (λ f. absurd f) k) (has_either xs (n ∷ []) i (subst (λ (l : List ℕ). Has l i) e h))
  added_cases false xs ys n i e h = inl (subst (λ (l : List ℕ). Has l i) e h)

  added_rise : (b : Bool) (xs ys : List ℕ) (n : ℕ) → ys ≡ cond b (xs ++ n ∷ []) xs → AreRisingPlaces xs → ((i : ℕ) → Has xs i → i < n) → AreRisingPlaces ys
  added_rise true xs ys n e r b = subst (λ (l : List ℕ). AreRisingPlaces l) (sym e) (more_rise xs n r b)
  added_rise false xs ys n e r b = subst (λ (l : List ℕ). AreRisingPlaces l) (sym e) r

  -- a message comes that is not void
  pub places_more : (ms : List Message) (x : Message) (ts : List (Option Taker)) (n : ℕ) (old new : Keyed K) → n ≡ length ms → is_live x.trust ≡ true → ((us : List (Option Taker)) → ArePlaces cmp key_of ms us old) →
      ((k : K) → places_at cmp new k ≡ cond (is_eq (cmp (key_of x) k)) (places_at cmp old k ++ n ∷ []) (places_at cmp old k)) → ArePlaces cmp key_of (ms ++ x ∷ []) ts new
  places_more ms x ts n old new len live are law = record {
    all = λ i m e l w. ⊎_elim
        (λ (f : slice_get ms i ≡ Some m). added_left (is_eq (cmp (key_of x) (key_of m))) (places_at cmp old (key_of m)) (places_at cmp new (key_of m)) n i (law (key_of m)) ((are ts).all i m f l w))
        (λ (v : (i ≡ length ms) × (m ≡ x)).
        let h : Has (places_at cmp new (key_of x)) n =
        added_here (is_eq (cmp (key_of x) (key_of x))) (places_at cmp old (key_of x)) (places_at cmp new (key_of x)) n (law (key_of x)) (ap (λ a. is_eq a) (tied_itself keys (key_of x))) in
        subst (λ (y : Message). Has (places_at cmp new (key_of y)) i) (sym v.1) (subst (λ (j : ℕ). Has (places_at cmp new (key_of x)) j) (len ∙ sym v.0) h))
        (last_or_old ms x i m e);
    own = λ k i h. ⊎_elim
        (λ (j : Has (places_at cmp old k) i). let o = (are ts).own k i j in (o.0, still_there ms x i o.0 o.1, o.2, o.3))
        (λ (v : (is_eq (cmp (key_of x) k) ≡ true) × (i ≡ n)).
        (x, subst (λ (j : ℕ). slice_get (ms ++ x ∷ []) j ≡ Some x) (sym (v.1 ∙ len)) (last_there ms x), tells_apart exact (key_of x) k v.0, live))
        (added_cases (is_eq (cmp (key_of x) k)) (places_at cmp old k) (places_at cmp new k) n i (law k) h);
    rise = λ k. added_rise (is_eq (cmp (key_of x) k)) (places_at cmp old k) (places_at cmp new k) n (law k) ((are ts).rise k)
        (λ i h. let o = (are ts).own k i h in let b = slice_get_within ms i o.0 o.1 in omega (arith, b, len));
  }

  -- a void one comes
  places_void : (ms : List Message) (x : Message) (ts : List (Option Taker)) (places : Keyed K) → (is_live x.trust ≡ true → ⊥) → ArePlaces cmp key_of ms ts places → ArePlaces cmp key_of (ms ++ x ∷ []) ts places
  places_void ms x ts places void are = record {
    all = λ i m e l w. ⊎_elim (λ (f : slice_get ms i ≡ Some m). are.all i m f l w)
        (λ (v : (i ≡ length ms) × (m ≡ x)). absurd (void (subst (λ (y : Message). is_live y.trust ≡ true) v.1 l))) (last_or_old ms x i m e);
    own = λ k i h. let o = are.own k i h in (o.0, still_there ms x i o.0 o.1, o.2, o.3);
    rise = are.rise;
  }

  pub places_passes : (ms : List Message) (i : ℕ) (m : Message) (ts : List (Option Taker)) (places : Keyed K) → slice_get ms i ≡ Some m → (is_live m.trust ≡ true → ⊥) →
      ((us : List (Option Taker)) → ArePlaces cmp key_of (take i ms) us places) → ArePlaces cmp key_of (take (i + 1) ms) ts places
  places_passes ms i m ts places e void are =
      subst (λ (l : List Message). ArePlaces cmp key_of l ts places) (sym (take_there ms i m e)) (places_void (take i ms) m ts places void (are ts))

  -- the next of the messages comes
  pub places_next : (ms : List Message) (i : ℕ) (m : Message) (ts : List (Option Taker)) (old new : Keyed K) → slice_get ms i ≡ Some m → is_live m.trust ≡ true → ((us : List (Option Taker)) → ArePlaces cmp key_of (take i ms) us old) →
      ((k : K) → places_at cmp new k ≡ cond (is_eq (cmp (key_of m) k)) (places_at cmp old k ++ i ∷ []) (places_at cmp old k)) → ArePlaces cmp key_of (take (i + 1) ms) ts new
  places_next ms i m ts old new e live are law =
      let lt = slice_get_within ms i m e in
      subst (λ (l : List Message). ArePlaces cmp key_of l ts new) (sym (take_there ms i m e))
      (places_more (take i ms) m ts i old new (sym (length-take-le i ms (omega arith))) live are law)

-- where one more is taken, the places stand as they are
waits_less : (ts : List (Option Taker)) (place : ℕ) (t : Taker) (i : ℕ) → waits_at (slice_set ts place (Some t)) i ≡ true → waits_at ts i ≡ true
waits_less [] place t i h = h
waits_less (x ∷ ts) zero t zero h = absurd (cc)
waits_less (x ∷ ts) zero t (suc i) h = h
waits_less (x ∷ ts) (suc place) t zero h = h
waits_less (x ∷ ts) (suc place) t (suc i) h = waits_less ts place t i h

pub places_with : {K : Type 0} (cmp : K → K → Ordering) (key_of : Message → K) (ms : List Message) (ts : List (Option Taker)) (place : ℕ) (t : Taker) (places : Keyed K) → ArePlaces cmp key_of ms ts places
    → ArePlaces cmp key_of ms (slice_set ts place (Some t)) places
places_with cmp key_of ms ts place t places are = record {
  all = λ i m e l w. are.all i m e l (waits_less ts place t i w);
  own = are.own;
  rise = are.rise;
}

-- the next of the messages is plain too
pub plain_next : (ms : List Message) (i : ℕ) (n : Message) → slice_get ms i ≡ Some n → ArePlain (take i ms) → IsPlain n → ArePlain (take (i + 1) ms)
plain_next ms i n e before next m h =
    ⊎_elim (λ (k : Has (take i ms) m). before m k)
    (λ (k : Has (n ∷ []) m). ⊎_elim (λ (f : m ≡ n). subst (λ (x : Message). IsPlain x) (sym f) next) (λ f. absurd f) k)
    (has_either (take i ms) (n ∷ []) m (subst (λ (l : List Message). Has l m) (take_there ms i n e) h))
