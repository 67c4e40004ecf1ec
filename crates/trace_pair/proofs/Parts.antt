-- Calls that come part by part: a part of each rank, and then the next part of each.
use Rattle.std.proofs.Common.{subst, ◌≡◌, ℕ, zero, suc, ◌+◌, ◌*◌, ◌/◌, ◌<◌, ◌≤◌, List, [], ◌∷◌, ◌++◌, sym, refl, ◌∙◌, ap, arith, length, take, drop, get_or, set}
use Rattle.std.specs.List.{All}
use Rattle.std.proofs.lemmas.List.Elements.{All-get_or}
use Rattle.std.proofs.lemmas.List.{take_all, take-take, length-take-le, take-append-drop, length-map}
use Rattle.std.proofs.Math.Nat.{mul-le-mul_right, mul-div_cancel_left, div-mul-le_self, le-div_iff_mul-le, zero-mul, zero-div}
use Rattle.mpi_model.specs.declared.message.Message.{Message}
use Rattle.mpi_model.specs.declared.message.Receive.{Receive}
use Rattle.trace_ops.specs.Ops.{Ops, IsOwn, AreOwn}
use Rattle.trace_ops.specs.Order.{Has, AreInOrder, ArePosted}
use Rattle.trace_pair.specs.Calls.{AreSentByCall, ArePostedByCall, IsSingle}
use Rattle.trace_pair.specs.Followed.{Indexes, FollowsBy, Moves}
use Rattle.trace_pair.specs.Pairing.{After}
use Rattle.trace_pair.specs.Parts.{first_parts, begun, all_begun}
use Rattle.trace_pair.specs.Table.{sends_of, receives_of}
use Rattle.trace_pair.specs.declared.matched.Matched.{Matched}
use Rattle.trace_pair.proofs.ByCall.{sent_front, posted_front as call_front}
use Rattle.trace_pair.proofs.Posts.{order_front as posted_front}
use Rattle.trace_pair.proofs.Ranked.{moved, own_at}
use Rattle.trace_pair.proofs.Ranks.{has_left, order_front}

-- more parts end no earlier
end_grows : (n parts done more : ℕ) → 0 < parts → done ≤ more → done * n / parts ≤ more * n / parts
end_grows n parts done more lt le =
    let a : done * n ≤ more * n = mul-le-mul_right n le in
    let b = div-mul-le_self (done * n) parts in
    (le-div_iff_mul-le {k = parts} {x = done * n / parts} {y = more * n} lt).1 (omega arith)

-- all parts end with the list
end_of_all : (n parts : ℕ) → 0 < parts → parts * n / parts ≡ n
end_of_all n parts lt = mul-div_cancel_left n lt

module _ {X : Type 0} where
  pub length_first : (parts done : ℕ) (xs : List X) → 0 < parts → done ≤ parts → length (first_parts parts done xs) ≡ done * length xs / parts
  length_first parts done xs lt le =
      let e = end_of_all (length xs) parts lt in
      let f = end_grows (length xs) parts done parts lt le in
      length-take-le (done * length xs / parts) xs (omega arith)

  -- a part more, and what was there before it
  pub first_grows : (parts done : ℕ) (xs : List X) → done < parts → length (first_parts parts done xs) ≤ length (first_parts parts (done + 1) xs)
  first_grows parts done xs lt =
      let a = length_first parts done xs (omega arith) (omega arith) in
      let b = length_first parts (done + 1) xs (omega arith) (omega arith) in
      let c = end_grows (length xs) parts done (done + 1) (omega arith) (omega arith) in
      omega arith

  first_kept : (parts done : ℕ) (xs : List X) → done < parts → take (length (first_parts parts done xs)) (first_parts parts (done + 1) xs) ≡ first_parts parts done xs
  first_kept parts done xs lt =
      ap (λ (n : ℕ). take n (first_parts parts (done + 1) xs)) (length_first parts done xs (omega arith) (omega arith))
      ∙ take-take (done * length xs / parts) ((done + 1) * length xs / parts) xs (end_grows (length xs) parts done (done + 1) (omega arith) (omega arith))

  -- the same of slices that hold them
  pub part_kept : (parts done : ℕ) (xs calls front more : List X) → done < parts → calls ≡ xs → front ≡ first_parts parts done calls → more ≡ first_parts parts (done + 1) calls → take (length front) more ≡ first_parts parts done xs
  part_kept parts done xs calls front more lt e f g =
      ap (λ (l : List X). take (length l) more) f
      ∙ ap (λ (l : List X). take (length (first_parts parts done calls)) l) g
      ∙ first_kept parts done calls lt
      ∙ ap (first_parts parts done) e

  first_none : (parts : ℕ) (xs : List X) → first_parts parts 0 xs ≡ []
  first_none parts xs = ap (λ (n : ℕ). take n xs) (ap (λ (n : ℕ). n / parts) (zero-mul (length xs)) ∙ zero-div parts)

  first_all : (parts : ℕ) (xs : List X) → 0 < parts → first_parts parts parts xs ≡ xs
  first_all parts xs lt = let e = end_of_all (length xs) parts lt in take_all (parts * length xs / parts) xs (omega arith)

  has_front : (n : ℕ) (xs : List X) (x : X) → Has (take n xs) x → Has xs x
  has_front n xs x h = subst (λ (l : List X). Has l x) (take-append-drop n xs) (has_left (take n xs) (drop n xs) x h)

own_begun : (parts done rank : ℕ) (o : Ops) → IsOwn rank o → IsOwn rank (begun parts done o)
own_begun parts done rank o w =
    let i = done * length o.sends / parts in
    let j = done * length o.receives / parts in
    record {
      sent = λ m h. w.sent m (has_front i o.sends m h);
      sent_from = λ m h. w.sent_from m (has_front i o.sends m h);
      posted = λ q h. w.posted q (has_front j o.receives q h);
      posted_at = λ q h. w.posted_at q (has_front j o.receives q h);
      sends_rise = order_front (take i o.sends) (drop i o.sends) (subst (λ (l : List Message). AreInOrder l) (sym (take-append-drop i o.sends)) w.sends_rise);
      rounds_rise = w.rounds_rise;
      receives_rise = posted_front (take j o.receives) (drop j o.receives) (subst (λ (l : List Receive). ArePosted l) (sym (take-append-drop j o.receives)) w.receives_rise);
      cancelled_by = w.cancelled_by;
      cancelled_rise = w.cancelled_rise;
    }

single_begun : (parts done : ℕ) (o : Ops) → IsSingle o → IsSingle (begun parts done o)
single_begun parts done o w =
    let i = done * length o.sends / parts in
    let j = done * length o.receives / parts in
    record {
      sends = sent_front (take i o.sends) (drop i o.sends) (subst (λ (l : List Message). AreSentByCall l) (sym (take-append-drop i o.sends)) w.sends);
      receives = call_front (take j o.receives) (drop j o.receives) (subst (λ (l : List Receive). ArePostedByCall l) (sym (take-append-drop j o.receives)) w.receives);
    }

begun_whole : (parts : ℕ) (o : Ops) → 0 < parts → begun parts parts o ≡ o
begun_whole parts o lt =
    ap (λ (ms : List Message). record o { sends = ms; receives = first_parts parts parts o.receives }) (first_all parts o.sends lt)
    ∙ ap (λ (qs : List Receive). record o { receives = qs }) (first_all parts o.receives lt)

pub all_whole : (parts : ℕ) (os : List Ops) → 0 < parts → all_begun parts parts os ≡ os
all_whole parts [] lt = refl
all_whole parts (o ∷ os) lt = ap (λ (p : Ops). p ∷ all_begun parts parts os) (begun_whole parts o lt) ∙ ap (λ (ps : List Ops). o ∷ ps) (all_whole parts os lt)

none_sent : (parts : ℕ) (os : List Ops) → sends_of (all_begun parts 0 os) ≡ []
none_sent parts [] = refl
none_sent parts (o ∷ os) = ap (λ (ms : List Message). ms ++ sends_of (all_begun parts 0 os)) (first_none parts o.sends) ∙ none_sent parts os

none_posted : (parts : ℕ) (os : List Ops) → receives_of (all_begun parts 0 os) ≡ []
none_posted parts [] = refl
none_posted parts (o ∷ os) = ap (λ (qs : List Receive). qs ++ receives_of (all_begun parts 0 os)) (first_none parts o.receives) ∙ none_posted parts os

-- before the first part no call is there
pub none_begun : (after : After) (parts : ℕ) (os : List Ops) (state : Matched) → Indexes after [] [] state → FollowsBy after (all_begun parts 0 os) state
none_begun after parts os state x =
    subst (λ (ms : List Message). Indexes after ms (receives_of (all_begun parts 0 os)) state) (sym (none_sent parts os))
    (subst (λ (qs : List Receive). Indexes after [] qs state) (sym (none_posted parts os)) x)

module _ (parts done : ℕ) where
  -- the first ranks have a part more than the others
  abbrev pub one_ahead : ℕ → List Ops → List Ops
  one_ahead zero os = all_begun parts done os
  one_ahead (suc i) [] = []
  one_ahead (suc i) (o ∷ os) = begun parts (done + 1) o ∷ one_ahead i os

  ahead_length : (i : ℕ) (os : List Ops) → length (one_ahead i os) ≡ length os
  ahead_length zero os = length-map os (begun parts done)
  ahead_length (suc i) [] = refl
  ahead_length (suc i) (o ∷ os) = ap suc (ahead_length i os)

  ahead_own : (i first : ℕ) (os : List Ops) → AreOwn first os → AreOwn first (one_ahead i os)
  ahead_own zero first [] a = tt
  ahead_own zero first (o ∷ os) a = (own_begun parts done first o a.0, ahead_own zero (first + 1) os a.1)
  ahead_own (suc i) first [] a = tt
  ahead_own (suc i) first (o ∷ os) a = (own_begun parts (done + 1) first o a.0, ahead_own i (first + 1) os a.1)

  ahead_at : (i : ℕ) (os : List Ops) (o p : Ops) → i < length os → get_or (one_ahead i os) i p ≡ begun parts done (get_or os i o)
  ahead_at zero [] o p lt = absurd (omega arith)
  ahead_at zero (q ∷ os) o p lt = refl
  ahead_at (suc i) [] o p lt = absurd (omega arith)
  ahead_at (suc i) (q ∷ os) o p lt = ahead_at i os o p (omega arith)

  ahead_next : (i : ℕ) (os : List Ops) (o : Ops) → i < length os → set (one_ahead i os) i (begun parts (done + 1) (get_or os i o)) ≡ one_ahead (suc i) os
  ahead_next zero [] o lt = absurd (omega arith)
  ahead_next zero (q ∷ os) o lt = refl
  ahead_next (suc i) [] o lt = absurd (omega arith)
  ahead_next (suc i) (q ∷ os) o lt = ap (λ (ps : List Ops). begun parts (done + 1) q ∷ ps) (ahead_next i os o (omega arith))

  pub ahead_all : (os : List Ops) → one_ahead (length os) os ≡ all_begun parts (done + 1) os
  ahead_all [] = refl
  ahead_all (o ∷ os) = ap (λ (ps : List Ops). begun parts (done + 1) o ∷ ps) (ahead_all os)

  -- the next rank gets its part
  pub next_ahead : (after : After) (os : List Ops) (i : ℕ) (o : Ops) (old new : Matched) → i < length os → AreOwn 0 os → All IsSingle os → o ≡ get_or os i o → Moves after (begun parts done o) (begun parts (done + 1) o) old new → FollowsBy after (one_ahead i os) old → FollowsBy after (one_ahead (i + 1) os) new
  next_ahead after os i o old new lt a singles e law x =
      let w : IsOwn i o = subst (λ (q : Ops). IsOwn i q) (sym e) (subst (λ (r : ℕ). IsOwn r (get_or os i o)) (omega arith) (own_at os 0 i o lt a)) in
      let single = subst (λ (q : Ops). IsSingle q) (sym e) (All-get_or IsSingle os i o lt singles) in
      let n = ahead_length i os in
      let d : begun parts done o ≡ get_or (one_ahead i os) i (begun parts done o) = ap (begun parts done) e ∙ sym (ahead_at i os o (begun parts done o) lt) in
      let k : suc i ≡ i + 1 = omega arith in
      let s : set (one_ahead i os) i (begun parts (done + 1) o) ≡ one_ahead (i + 1) os =
      ap (λ (q : Ops). set (one_ahead i os) i (begun parts (done + 1) q)) e ∙ ahead_next i os o lt ∙ ap (λ (j : ℕ). one_ahead j os) k in
      subst (λ (held : List Ops). FollowsBy after held new) s
      (moved after (one_ahead i os) i (begun parts done o) (begun parts (done + 1) o) old new (omega arith) (ahead_own i 0 os a) (own_begun parts (done + 1) i o w) (single_begun parts done o single) (single_begun parts (done + 1) o single) d law x)
