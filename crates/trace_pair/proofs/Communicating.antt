-- The collective communications of a rank: they stand in order where its collective calls do, and grow as those do.
use Rattle.std.proofs.Common.{◌≡◌, ℕ, zero, suc, ◌+◌, ◌<◌, ◌≤◌, Bool, true, false, List, [], ◌∷◌, ◌++◌, inl, inr, ⊎_elim, sym, refl, ◌∙◌, ap, subst, arith, length, filter, take, drop, cond, Some}
use Rattle.std.specs.List.{AllZip}
use Rattle.std.proofs.Math.Seq.{drop-append_seam}
use Rattle.std.proofs.lemmas.List.{take-append-drop, take_at}
use Rattle.std.proofs.lemmas.List.Elements.{filter-append}
use Rattle.mpi_model.specs.declared.message.Message.{Message}
use Rattle.mpi_model.specs.declared.message.Receive.{Receive}
use Rattle.trace_ops.specs.Ops.{Ops, Grows}
use Rattle.trace_ops.specs.Order.{Has, AreEntered}
use Rattle.trace_ops.specs.Round.{is_communication}
use Rattle.trace_ops.specs.declared.entered.Entered.{Entered}
use Rattle.trace_pair.specs.After.{communicating, communications}
use Rattle.trace_pair.specs.Fronts.{AreOneBefore, IsAlike}

-- what is left of a list was in it
pub kept_in : (xs : List Entered) (x : Entered) → Has (communications xs) x → Has xs x
kept_in [] x h = h
kept_in (y ∷ ys) x h = by (is_communication y) (λ i. kept_in ys x i) h
  where
    by : (b : Bool) → (Has (communications ys) x → Has ys x) → Has (cond b (y ∷ communications ys) (communications ys)) x → Has (y ∷ ys) x
    by true rest (inl e) = inl e
    by true rest (inr i) = inr (rest i)
    by false rest i = inr (rest i)

pub kept_rise : (xs : List Entered) → AreEntered xs → AreEntered (communications xs)
kept_rise [] up = tt
kept_rise (y ∷ ys) up = by (is_communication y) (kept_rise ys up.1)
  where
    by : (b : Bool) → AreEntered (communications ys) → AreEntered (cond b (y ∷ communications ys) (communications ys))
    by true rest = (λ z i. up.0 z (kept_in ys z i), rest)
    by false rest = rest

-- a list is its front, filtered, and the rest
split : (k : ℕ) (xs : List Entered) → communications xs ≡ communications (take k xs) ++ communications (drop k xs)
split k xs = ap communications (sym (take-append-drop k xs)) ∙ filter-append is_communication (take k xs) (drop k xs)

front_kept : (k : ℕ) (xs : List Entered) → take (length (communications (take k xs))) (communications xs) ≡ communications (take k xs)
front_kept k xs = ap (take (length (communications (take k xs)))) (split k xs) ∙ take_at (communications (take k xs)) (communications (drop k xs)) (length (communications (take k xs))) refl

rest_kept : (k : ℕ) (xs : List Entered) → drop (length (communications (take k xs))) (communications xs) ≡ communications (drop k xs)
rest_kept k xs = ap (drop (length (communications (take k xs)))) (split k xs) ∙ drop-append_seam (communications (take k xs)) (communications (drop k xs))

-- lists that are alike, filtered
alike_kept : (xs ys : List Entered) → AllZip IsAlike xs ys → AllZip IsAlike (communications xs) (communications ys)
alike_kept [] [] z = tt
alike_kept [] (y ∷ ys) z = absurd z
alike_kept (x ∷ xs) [] z = absurd z
alike_kept (x ∷ xs) (y ∷ ys) z = by (is_communication x) (is_communication y) z.0.counted (alike_kept xs ys z.1)
  where
    by : (a b : Bool) → a ≡ b → AllZip IsAlike (communications xs) (communications ys) →
        AllZip IsAlike (cond a (x ∷ communications xs) (communications xs)) (cond b (y ∷ communications ys) (communications ys))
    by true true e rest = (z.0, rest)
    by false false e rest = rest
    by true false e rest = absurd (cc)
    by false true e rest = absurd (cc)

as_many : (xs ys : List Entered) → AllZip IsAlike xs ys → length (communications xs) ≡ length (communications ys)
as_many [] [] z = refl
as_many [] (y ∷ ys) z = absurd z
as_many (x ∷ xs) [] z = absurd z
as_many (x ∷ xs) (y ∷ ys) z = by (is_communication x) (is_communication y) z.0.counted (as_many xs ys z.1)
  where
    by : (a b : Bool) → a ≡ b → length (communications xs) ≡ length (communications ys) →
        length (cond a (x ∷ communications xs) (communications xs)) ≡ length (cond b (y ∷ communications ys) (communications ys))
    by true true e rest = ap (λ n. suc n) rest
    by false false e rest = rest
    by true false e rest = absurd (cc)
    by false true e rest = absurd (cc)

-- Where two lists of collective calls differ only behind a call, so do the communications among them.
pub one_before_kept : (last : ℕ) (a b : List Entered) → AreOneBefore last a b → AreOneBefore last (communications a) (communications b)
one_before_kept last a b o =
    let k = o.front in
    let n = length (communications (take k a)) in
    let same : n ≡ length (communications (take k b)) = as_many (take k a) (take k b) o.alike in
    let second_front : take n (communications b) ≡ communications (take k b) = ap (λ (m : ℕ). take m (communications b)) same ∙ front_kept k b in
    let second_rest : drop n (communications b) ≡ communications (drop k b) = ap (λ (m : ℕ). drop m (communications b)) same ∙ rest_kept k b in
    record {
      front = n;
      alike = subst (λ (l : List Entered). AllZip IsAlike l (take n (communications b))) (sym (front_kept k a))
          (subst (λ (l : List Entered). AllZip IsAlike (communications (take k a)) l) (sym second_front) (alike_kept (take k a) (take k b) o.alike));
      first = λ x i. o.first x (kept_in (drop k a) x (subst (λ (l : List Entered). Has l x) (rest_kept k a) i));
      second = λ x i. o.second x (kept_in (drop k b) x (subst (λ (l : List Entered). Has l x) second_rest i));
    }

-- A rank that goes on goes on with its communications.
pub grows_kept : (old new : Ops) → Grows old new → Grows (communicating old) (communicating new)
grows_kept old new g =
    let k = length old.rounds in
    let front : communications (take k new.rounds) ≡ communications old.rounds = ap communications g.rounds in
    let rest : (x : Entered) → Has (drop (length (communications old.rounds)) (communications new.rounds)) x → Has (drop k new.rounds) x =
    λ x i. kept_in (drop k new.rounds) x
    (subst (λ (l : List Entered). Has l x) (rest_kept k new.rounds)
    (subst (λ (l : List Entered). Has (drop (length l) (communications new.rounds)) x) (sym front) i)) in
    record {
      sends = g.sends;
      receives = g.receives;
      rounds = ap (λ (l : List Entered). take (length l) (communications new.rounds)) (sym front) ∙ front_kept k new.rounds ∙ front;
      comms = g.comms;
      later = record {
        send_behind_sends = g.later.send_behind_sends;
        send_behind_receives = g.later.send_behind_receives;
        receive_behind_sends = g.later.receive_behind_sends;
        receive_behind_receives = g.later.receive_behind_receives;
      };
      behind_ends = λ q e x i is j. g.behind_ends q e x i is (rest x j);
      behind_sends = λ m x i j. g.behind_sends m x i (rest x j);
    }
