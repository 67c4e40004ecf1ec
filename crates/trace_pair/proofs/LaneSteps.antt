-- A lane, as a receive comes or goes.
use Rattle.std.proofs.Common.{◌≡◌, ◌⊎◌, ◌<◌, ◌≤◌, ℕ, ◌+◌, ◌-◌, Bool, true, false, not, ◌||◌, List, [], ◌∷◌, ◌++◌, Option, None, inl, inr, ⊎_elim, sym, refl, ◌∙◌, ap, arith, subst, length, take, drop, set, get_or, filter, cond, ltb, eqb}
use Rattle.std.specs.BTreeSet.{contains}
use Rattle.std.specs.List.{insert}
use Rattle.std.specs.List.Sorted.{IsNonDecreasingBy}
use Rattle.std.specs.Ordering.{is_eq}
use Rattle.std.proofs.lemmas.Bool.Decides.{nat_tests}
use Rattle.std.proofs.lemmas.Cmp.{tied_itself}
use Rattle.std.proofs.lemmas.List.{drop-map, get_or-map, get_or_default, length-map, length-take-le, map-append, take-append-drop, take-map, take_at, take_more_set}
use Rattle.std.proofs.lemmas.List.Kept.{IsNonDecreasingBy-filter}
use Rattle.std.proofs.lemmas.List.Sorted.{IsNonDecreasingBy-insert, IsNonDecreasingBy-take}
use Rattle.std.proofs.lemmas.Map.Views.{btree_set_contains_iff, tells_apart}
use Rattle.mpi_model.specs.declared.message.Receive.{Receive}
use Rattle.trace_ops.specs.Order.{Has}
use Rattle.trace_pair.specs.Ends.{with_end}
use Rattle.trace_pair.specs.Groups.{HasMember}
use Rattle.trace_pair.specs.KeyOrders.{receive_cmp, same_receive}
use Rattle.trace_pair.specs.Lanes.{AreLatest, EndsWith, IsLane, call_of, end_of, receives_of, set_of_steps}
use Rattle.trace_pair.specs.Sets.{AddsTo, DropsFrom}
use Rattle.trace_pair.specs.declared.lanes.Step.{Step}
use Rattle.trace_pair.proofs.Hiding.{dropped_all}
use Rattle.trace_pair.proofs.Laned.{at_front, front_at, in_front, latest_both, latest_front, has_receive, step_of}
use Rattle.trace_pair.proofs.Members.{contains_has, has_contains}
use Rattle.trace_pair.proofs.Obeyed.{either, or_left, or_right}
use Rattle.trace_pair.proofs.Orders.{exact_receives, receives_total}
use Rattle.trace_pair.proofs.Ranks.{has_either, has_left, has_right}
use Rattle.trace_pair.proofs.Same.{same_receives}

-- ---- the latest ends, made anew

-- with the step at a place told anew
pub renewed : (steps : List Step) (i : ℕ) (v : Step) (had : Option (Option ℕ)) → i < length steps → had ≡ end_of None (take i steps) → v.latest ≡ with_end had v.receive.ended → AreLatest None (take i steps) →
    AreLatest None (take (i + 1) (set steps i v))
renewed steps i v had lt front is a =
    subst (λ (l : List Step). AreLatest None l) (sym (take_more_set steps i v lt))
    (latest_both None (take i steps) (v ∷ []) a (is ∙ ap (λ o. with_end o v.receive.ended) front, tt))

-- the order is that of the receives
order_kept : (old new : List Step) → receives_of new ≡ receives_of old → IsNonDecreasingBy call_of old → IsNonDecreasingBy call_of new
order_kept old new same order i j d le lt =
    let long : length new ≡ length old = sym (length-map new (λ (s : Step). s.receive)) ∙ ap length same ∙ length-map old (λ (s : Step). s.receive) in
    let lt' : j < length old = omega arith in
    let li : i < length new = omega arith in
    let li' : i < length old = omega arith in
    subst (λ n. n ≤ call_of (get_or new j d)) (sym (at i li li')) (subst (λ n. call_of (get_or old i d) ≤ n) (sym (at j lt lt')) (order i j d le lt'))
  where
    at : (k : ℕ) → k < length new → k < length old → call_of (get_or new k d) ≡ call_of (get_or old k d)
    at k l m =
        ap (λ (r : Receive). r.name.call) (sym (get_or-map (λ (s : Step). s.receive) new k d d.receive l)
        ∙ ap (λ (rs : List Receive). get_or rs k d.receive) same ∙ get_or-map (λ (s : Step). s.receive) old k d d.receive m)

pub renewed_lane : (old new : List Step) → IsNonDecreasingBy call_of old → receives_of new ≡ receives_of old → AreLatest None new → IsLane new
renewed_lane old new order same latest = record { in_order = order_kept old new same order; latest = latest }

-- ---- lists of receives as sets

pub has_set : (qs : List Receive) (d : Receive) → contains receive_cmp (record { keys = qs }) d ≡ true → Has qs d
has_set qs d h = has_contains qs d ((btree_set_contains_iff receives_total exact_receives (record { keys = qs }) d).0 h)

pub set_has : (qs : List Receive) (d : Receive) → Has qs d → contains receive_cmp (record { keys = qs }) d ≡ true
set_has qs d i = (btree_set_contains_iff receives_total exact_receives (record { keys = qs }) d).1 (contains_has qs d i)

alike : (a b : Bool) → (a ≡ true → b ≡ true) → (b ≡ true → a ≡ true) → a ≡ b
alike true b f g = sym (f refl)
alike false true f g = g refl
alike false false f g = refl

is_itself : (q d : Receive) → q ≡ d → is_eq (receive_cmp q d) ≡ true
is_itself q d e = ap (λ (x : Receive). is_eq (receive_cmp q x)) (sym e) ∙ ap is_eq (tied_itself receives_total q)

pub set_adds : (old new : List Receive) (q : Receive) → AddsTo old new q → (d : Receive) → contains receive_cmp (record { keys = new }) d ≡ (is_eq (receive_cmp q d) || contains receive_cmp (record { keys = old }) d)
set_adds old new q adds d = alike _ _
    (λ h. ⊎_elim (λ (i : Has old d). or_right (is_eq (receive_cmp q d)) _ (set_has old d i))
    (λ (e : d ≡ q). or_left (is_eq (receive_cmp q d)) (contains receive_cmp (record { keys = old }) d) (is_itself q d (sym e))) (adds.cases d (has_set new d h)))
    (λ h. ⊎_elim (λ (t : is_eq (receive_cmp q d) ≡ true). set_has new d (subst (λ (x : Receive). Has new x) (tells_apart exact_receives q d t) adds.added))
    (λ (i : contains receive_cmp (record { keys = old }) d ≡ true). set_has new d (adds.keeps d (has_set old d i)))
    (either (is_eq (receive_cmp q d)) (contains receive_cmp (record { keys = old }) d) h))

pub set_drops : (old new : List Receive) (q : Receive) → DropsFrom old new q → (d : Receive) → contains receive_cmp (record { keys = new }) d ≡ cond (is_eq (receive_cmp q d)) false (contains receive_cmp (record { keys = old }) d)
set_drops old new q drops d =
    elim (is_eq (receive_cmp q d)) as (λ b. is_eq (receive_cmp q d) ≡ b → contains receive_cmp (record { keys = new }) d ≡ cond b false (contains receive_cmp (record { keys = old }) d)) [
      | true ↦ λ t. alike _ _ (λ h. absurd (drops.dropped (subst (λ (x : Receive). Has new x) (sym (tells_apart exact_receives q d t)) (has_set new d h)))) (λ h. absurd (cc))
      | false ↦ λ f. alike _ _ (λ h. set_has old d (drops.was d (has_set new d h)))
          (λ h. ⊎_elim (λ (i : Has new d). set_has new d i) (λ (e : d ≡ q). let t = is_itself q d (sym e) in absurd (cc)) (drops.keeps d (has_set old d h)))
    ] refl

set_of_one : (q d : Receive) → contains receive_cmp (record { keys = q ∷ [] }) d ≡ is_eq (receive_cmp q d)
set_of_one q d = alike _ _
    (λ h. ⊎_elim (λ (e : d ≡ q). is_itself q d (sym e)) (λ i. absurd i) (has_set (q ∷ []) d h))
    (λ t. set_has (q ∷ []) d (inl (sym (tells_apart exact_receives q d t))))

pub set_of_pushed : (old new : List Step) (s : Step) → old ≡ [] → new ≡ old ++ s ∷ [] → (d : Receive) → contains receive_cmp (set_of_steps new) d ≡ is_eq (receive_cmp s.receive d)
set_of_pushed old new s none is d = ap (λ (l : List Step). contains receive_cmp (set_of_steps l) d) (is ∙ ap (λ (l : List Step). l ++ s ∷ []) none) ∙ set_of_one s.receive d

pub some_member : (steps : List Step) (n : ℕ) → n ≡ length steps → eqb n 0 ≡ false → HasMember receive_cmp (set_of_steps steps)
some_member [] n long h = absurd (let t : eqb n 0 ≡ true = grind (arith, nat_tests) in cc)
some_member (s ∷ steps) n long h = (s.receive, set_has (receives_of (s ∷ steps)) s.receive (inl refl))

-- ---- a receive comes

pub front_still : (old new : List Step) (n : ℕ) (s : Step) → n ≤ length old → new ≡ insert old n s → AreLatest None old → AreLatest None (take n new)
front_still old new n s le is a =
    subst (λ (l : List Step). AreLatest None l) (sym (ap (λ (l : List Step). take n l) is ∙ take_at (take n old) (s ∷ drop n old) n (length-take-le n old le))) (latest_front None n old a)

pub order_more : (old new : List Step) (n : ℕ) (s : Step) → IsNonDecreasingBy call_of old → n ≤ length old → ((k : ℕ) (d : Step) → k < n → ltb (call_of (get_or old k d)) (call_of s) ≡ true) →
    ((k : ℕ) (d : Step) → n ≤ k → k < length old → ltb (call_of (get_or old k d)) (call_of s) ≡ false) → new ≡ insert old n s → IsNonDecreasingBy call_of new
order_more old new n s order le below above is =
    subst (λ (l : List Step). IsNonDecreasingBy call_of l) (sym is) (IsNonDecreasingBy-insert call_of old n s order le
    (λ k d lt. let t = below k d lt in grind (arith, nat_tests)) (λ k d ge lt. let t = above k d ge lt in grind (arith, nat_tests)))

inserted : {X : Type 0} (xs : List X) (n : ℕ) (x : X) → AddsTo xs (insert xs n x) x
inserted {X} xs n x = record {
  keeps = λ y i. ⊎_elim (λ (j : Has (take n xs) y). has_left (take n xs) (x ∷ drop n xs) y j) (λ (j : Has (drop n xs) y). has_right (take n xs) (x ∷ drop n xs) y (inr j))
      (has_either (take n xs) (drop n xs) y (subst (λ (l : List X). Has l y) (sym (take-append-drop n xs)) i));
  added = has_right (take n xs) (x ∷ drop n xs) x (inl refl);
  cases = λ y i. ⊎_elim (λ (j : Has (take n xs) y). inl (subst (λ (l : List X). Has l y) (take-append-drop n xs) (has_left (take n xs) (drop n xs) y j)))
      (λ (j : Has (x ∷ drop n xs) y). ⊎_elim (λ (e : y ≡ x). inr e) (λ (k : Has (drop n xs) y). inl (subst (λ (l : List X). Has l y) (take-append-drop n xs) (has_right (take n xs) (drop n xs) y k))) j)
      (has_either (take n xs) (x ∷ drop n xs) y i);
}

pub receives_more : (old mid new : List Step) (n : ℕ) (s : Step) → mid ≡ insert old n s → receives_of new ≡ receives_of mid → AddsTo (receives_of old) (receives_of new) s.receive
receives_more old mid new n s is same =
    let moved : receives_of (insert old n s) ≡ insert (receives_of old) n s.receive = map-append (λ (x : Step). x.receive) (take n old) (s ∷ drop n old)
    ∙ ap (λ (l : List Receive). l ++ s.receive ∷ receives_of (drop n old)) (sym (take-map (λ (x : Step). x.receive) n old))
    ∙ ap (λ (l : List Receive). take n (receives_of old) ++ s.receive ∷ l) (sym (drop-map (λ (x : Step). x.receive) n old)) in
    subst (λ (l : List Receive). AddsTo (receives_of old) l s.receive) (sym (same ∙ ap receives_of is ∙ moved)) (inserted (receives_of old) n s.receive)

-- ---- a receive goes

pub ends_with : (steps : List Step) (n : ℕ) (q : Receive) (d : Step) → length steps - n ≡ 1 → ((k : ℕ) (e : Step) → k < n → ltb (call_of (get_or steps k e)) q.name.call ≡ true) → (get_or steps n d).receive ≡ q → EndsWith steps q
ends_with steps n q d one below is =
    let front : length steps - 1 ≡ n = omega arith in
    record {
      before = λ s i. let w = at_front (length steps - 1) steps s i in ap (λ (x : Step). ltb (call_of x) q.name.call) (sym (w.3 s)) ∙ below w.0 s (omega (arith, w.1));
      last = λ s i.
          let c = contains_has steps s i in
          elim (ltb c.0 n) as (λ b. ltb c.0 n ≡ b → Has (take (length steps - 1) steps) s ⊎ (s.receive ≡ q)) [
            | true ↦ λ h. let lt : c.0 < n = grind (arith, nat_tests) in
                inl (subst (λ (x : Step). Has (take (length steps - 1) steps) x) c.2 (front_at (length steps - 1) steps c.0 s (omega arith) c.1))
            | false ↦ λ h. let ge : n ≤ c.0 = grind (arith, nat_tests) in let lt = c.1 in let e : c.0 ≡ n = omega arith in
                inr (ap (λ (x : Step). x.receive) (sym c.2 ∙ ap (λ k. get_or steps k s) e ∙ get_or_default steps n s d (omega arith)) ∙ is)
          ] refl;
    }

pub front_lane : (steps : List Step) (n : ℕ) → IsLane steps → IsLane (take n steps)
front_lane steps n lane = record { in_order = IsNonDecreasingBy-take call_of n steps lane.in_order; latest = latest_front None n steps lane.latest }

last_dropped : (steps : List Step) (q : Receive) → EndsWith steps q → DropsFrom (receives_of steps) (receives_of (take (length steps - 1) steps)) q
last_dropped steps q ends =
    let front = take (length steps - 1) steps in
    record {
      keeps = λ u i. let s = step_of steps u i in
          ⊎_elim (λ (j : Has front s.0). inl (subst (λ (x : Receive). Has (receives_of front) x) s.2 (has_receive front s.0 j)))
          (λ (e : s.0.receive ≡ q). inr (sym s.2 ∙ e)) (ends.last s.0 s.1);
      dropped = λ i. let s = step_of front q i in
          let t = ap (λ (x : Receive). ltb x.name.call q.name.call) (sym s.2) ∙ ends.before s.0 s.1 in
          let lt : q.name.call < q.name.call = grind (arith, nat_tests) in omega arith;
      was = λ u i. let s = step_of front u i in
          subst (λ (x : Receive). Has (receives_of steps) x) s.2 (has_receive steps s.0 (in_front (length steps - 1) steps s.0 s.1));
    }

pub popped : (old new : List Step) (n : ℕ) (q : Receive) → n ≡ length old → new ≡ take (n - 1) old → EndsWith old q → DropsFrom (receives_of old) (receives_of new) q
popped old new n q long is ends =
    subst (λ (l : List Step). DropsFrom (receives_of old) (receives_of l) q) (sym (is ∙ ap (λ k. take (k - 1) old) long)) (last_dropped old q ends)

filtered : (p : Receive → Bool) (steps : List Step) → receives_of (filter (λ s. p s.receive) steps) ≡ filter p (receives_of steps)
filtered p [] = refl
filtered p (s ∷ steps) =
    elim (p s.receive) as (λ b. receives_of (cond b (s ∷ filter (λ s. p s.receive) steps) (filter (λ s. p s.receive) steps)) ≡ cond b (s.receive ∷ filter p (receives_of steps)) (filter p (receives_of steps))) [
      | true ↦ ap (λ (l : List Receive). s.receive ∷ l) (filtered p steps)
      | false ↦ filtered p steps
    ]

pub order_less : (old new : List Step) (p : Step → Bool) → new ≡ filter p old → IsNonDecreasingBy call_of old → IsNonDecreasingBy call_of new
order_less old new p is order = subst (λ (l : List Step). IsNonDecreasingBy call_of l) (sym is) (IsNonDecreasingBy-filter call_of p old order)

pub receives_less : (old mid new : List Step) (q : Receive) → mid ≡ filter (λ s. not (same_receive s.receive q)) old → receives_of new ≡ receives_of mid → DropsFrom (receives_of old) (receives_of new) q
receives_less old mid new q is same =
    dropped_all (receives_of old) (receives_of new) q (λ (u : Receive). same_receive u q) (λ u. same_receives u q) (same ∙ ap receives_of is ∙ filtered (λ u. not (same_receive u q)) old)
