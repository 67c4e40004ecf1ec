-- The receives of one key, and the ends that their steps tell.
use Rattle.std.proofs.Common.{◌≡◌, ◌<◌, ◌≤◌, ℕ, zero, suc, true, false, List, [], ◌∷◌, ◌++◌, Option, Some, None, inl, inr, ⊎_elim, sym, refl, ◌∙◌, ap, arith, subst, length, take, drop, get_or, append_assoc, filter, ltb, leb}
use Rattle.std.specs.List.Sorted.{IsPartitionPoint}
use Rattle.std.proofs.lemmas.List.{append-nil, take-append-drop, take_all}
use Rattle.std.proofs.lemmas.Bool.Decides.{nat_tests}
use Rattle.mpi_model.specs.declared.message.Receive.{Receive}
use Rattle.trace_ops.specs.Order.{Has}
use Rattle.trace_pair.specs.Ends.{ends_by, with_end}
use Rattle.trace_pair.specs.Lanes.{AreLatest, IsLane, IsLatestOf, call_of, end_of, is_within, receives_of}
use Rattle.trace_pair.specs.declared.lanes.Step.{Step}
use Rattle.trace_pair.proofs.Hiding.{kept_has, was_kept}
use Rattle.trace_pair.proofs.Latest.{ends_along, ends_self}
use Rattle.trace_pair.proofs.LaterEnds.{later_left, later_one, later_right}
use Rattle.trace_pair.proofs.Members.{contains_has}
use Rattle.trace_pair.proofs.Ranks.{has_either, has_left, has_right}

-- ---- what the steps tell

pub latest_both : (had : Option (Option ℕ)) (xs ys : List Step) → AreLatest had xs → AreLatest (end_of had xs) ys → AreLatest had (xs ++ ys)
latest_both had [] ys a b = b
latest_both had (s ∷ xs) ys a b = (a.0, latest_both (Some s.latest) xs ys a.1 b)

pub latest_front : (had : Option (Option ℕ)) (n : ℕ) (xs : List Step) → AreLatest had xs → AreLatest had (take n xs)
latest_front had zero xs a = tt
latest_front had (suc n) [] a = tt
latest_front had (suc n) (s ∷ xs) a = (a.0, latest_front (Some s.latest) n xs a.1)

-- what the step at a place tells
end_at : (had : Option (Option ℕ)) (steps : List Step) (k : ℕ) (d : Step) → k < length steps → end_of had (take (suc k) steps) ≡ Some (get_or steps k d).latest
end_at had [] k d lt = absurd (omega arith)
end_at had (s ∷ steps) zero d lt = refl
end_at had (s ∷ steps) (suc k) d lt = end_at (Some s.latest) steps k d (omega arith)

pub end_before : (steps : List Step) (n k : ℕ) (d : Step) → n ≡ suc k → k < length steps → end_of None (take n steps) ≡ Some (get_or steps k d).latest
end_before steps n k d e lt = ap (λ i. end_of None (take i steps)) e ∙ end_at None steps k d lt

-- with one receive more
one_more : (had : Option (Option ℕ)) (qs : List Receive) (q : Receive) (e : Option ℕ) → IsLatestOf qs had → e ≡ with_end had q.ended → IsLatestOf (qs ++ q ∷ []) (Some e)
one_more None qs q e h is = (
  (q, has_right qs (q ∷ []) q (inl refl), sym is),
  λ u i. ⊎_elim (λ (j : Has qs u). absurd (h u j))
      (λ (j : Has (q ∷ []) u). ⊎_elim (λ (x : u ≡ q). ap (λ (r : Receive). ends_by r.ended e) x ∙ ap (λ o. ends_by q.ended o) is ∙ ends_self q.ended) (λ k. absurd k) j)
      (has_either qs (q ∷ []) u i),
)
one_more (Some x) qs q e h is = (
  ⊎_elim (λ (w : with_end (Some x) q.ended ≡ x). (h.0.0, has_left qs (q ∷ []) h.0.0 h.0.1, h.0.2 ∙ sym w ∙ sym is))
      (λ (w : with_end (Some x) q.ended ≡ q.ended). (q, has_right qs (q ∷ []) q (inl refl), sym w ∙ sym is)) (later_one x q.ended),
  λ u i. ap (λ o. ends_by u.ended o) is ∙ ⊎_elim (λ (j : Has qs u). ends_along u.ended x (with_end (Some x) q.ended) (h.1 u j) (later_left x q.ended))
      (λ (j : Has (q ∷ []) u). ⊎_elim (λ (y : u ≡ q). ap (λ (r : Receive). ends_by r.ended (with_end (Some x) q.ended)) y ∙ later_right x q.ended) (λ k. absurd k) j)
      (has_either qs (q ∷ []) u i),
)

told_with : (had : Option (Option ℕ)) (qs : List Receive) (steps : List Step) → IsLatestOf qs had → AreLatest had steps → IsLatestOf (qs ++ receives_of steps) (end_of had steps)
told_with had qs [] h a = subst (λ (l : List Receive). IsLatestOf l had) (sym (append-nil qs)) h
told_with had qs (s ∷ steps) h a =
    subst (λ (l : List Receive). IsLatestOf l (end_of (Some s.latest) steps)) (append_assoc qs (s.receive ∷ []) (receives_of steps))
    (told_with (Some s.latest) (qs ++ s.receive ∷ []) steps (one_more had qs s.receive s.latest h a.0) a.1)

-- The last of some steps tells the end of the last to end of their receives.
told : (steps : List Step) → AreLatest None steps → IsLatestOf (receives_of steps) (end_of None steps)
told steps a = told_with None [] steps (λ q i. absurd i) a

same_latest : (qs rs : List Receive) (o : Option (Option ℕ)) → ((u : Receive) → Has qs u → Has rs u) → ((u : Receive) → Has rs u → Has qs u) → IsLatestOf qs o → IsLatestOf rs o
same_latest qs rs None f g h = λ u i. h u (g u i)
same_latest qs rs (Some e) f g h = ((h.0.0, f h.0.0 h.0.1, h.0.2), λ u i. h.1 u (g u i))

-- ---- filters and fronts

pub in_front : {X : Type 0} (n : ℕ) (xs : List X) (u : X) → Has (take n xs) u → Has xs u
in_front {X} n xs u i = subst (λ (l : List X). Has l u) (take-append-drop n xs) (has_left (take n xs) (drop n xs) u i)

-- what stands at a place in front stands in the front
pub front_at : {X : Type 0} (n : ℕ) (xs : List X) (k : ℕ) (d : X) → k < n → k < length xs → Has (take n xs) (get_or xs k d)
front_at zero xs k d lt le = absurd (omega arith)
front_at (suc n) [] k d lt le = absurd (omega arith)
front_at (suc n) (x ∷ xs) zero d lt le = inl refl
front_at (suc n) (x ∷ xs) (suc k) d lt le = inr (front_at n xs k d (omega arith) (omega arith))

-- what stands in the front stands at a place in front
pub at_front : {X : Type 0} (n : ℕ) (xs : List X) (u : X) → Has (take n xs) u → (k : ℕ) × (k < n) × (k < length xs) × ((d : X) → get_or xs k d ≡ u)
at_front zero xs u i = absurd i
at_front (suc n) [] u i = absurd i
at_front {X} (suc n) (x ∷ xs) u i =
    ⊎_elim (λ (e : u ≡ x). (0, omega arith, omega arith, λ d. sym e))
    (λ (j : Has (take n xs) u). let w = at_front n xs u j in (suc w.0, omega (arith, w.1), omega (arith, w.2), λ d. w.3 d)) i

pub step_of : (steps : List Step) (u : Receive) → Has (receives_of steps) u → (s : Step) × Has steps s × (s.receive ≡ u)
step_of [] u i = absurd i
step_of (s ∷ steps) u i =
    ⊎_elim (λ (e : u ≡ s.receive). (s, inl refl, sym e)) (λ (j : Has (receives_of steps) u). let w = step_of steps u j in (w.0, inr w.1, w.2)) i

pub has_receive : (steps : List Step) (s : Step) → Has steps s → Has (receives_of steps) s.receive
has_receive [] s i = absurd i
has_receive (x ∷ steps) s i = ⊎_elim (λ (e : s ≡ x). inl (ap (λ (y : Step). y.receive) e)) (λ (j : Has steps s). inr (has_receive steps s j)) i

-- ---- what a lane tells of its front

all_told : (steps : List Step) (n : ℕ) → n ≡ length steps → IsLane steps → IsLatestOf (filter (is_within None) (receives_of steps)) (end_of None (take n steps))
all_told steps n e lane =
    let all : take n steps ≡ steps = take_all n steps (omega arith) in
    subst (λ (l : List Step). IsLatestOf (filter (is_within None) (receives_of steps)) (end_of None l)) (sym all)
    (same_latest (receives_of steps) (filter (is_within None) (receives_of steps)) (end_of None steps)
    (λ u i. kept_has (is_within None) (receives_of steps) u i refl) (λ u i. (was_kept (is_within None) (receives_of steps) u i).0) (told steps lane.latest))

module _ (steps : List Step) (call n : ℕ) (below : (k : ℕ) (d : Step) → k < n → leb (call_of (get_or steps k d)) call ≡ true)
    (above : (k : ℕ) (d : Step) → n ≤ k → k < length steps → leb (call_of (get_or steps k d)) call ≡ false) where
  front_within : (u : Receive) → Has (receives_of (take n steps)) u → Has (filter (is_within (Some call)) (receives_of steps)) u
  front_within u i =
      let s = step_of (take n steps) u i in
      let w = at_front n steps s.0 s.1 in
      let t = ap (λ (x : Step). leb (call_of x) call) (sym (w.3 s.0)) ∙ below w.0 s.0 w.1 in
      let t' = ap (λ (x : Receive). leb x.name.call call) (sym s.2) ∙ t in
      kept_has (is_within (Some call)) (receives_of steps) u (subst (λ (x : Receive). Has (receives_of steps) x) s.2 (has_receive steps s.0 (in_front n steps s.0 s.1))) t'

  within_front : (u : Receive) → Has (filter (is_within (Some call)) (receives_of steps)) u → Has (receives_of (take n steps)) u
  within_front u i =
      let p = was_kept (is_within (Some call)) (receives_of steps) u i in
      let s = step_of steps u p.0 in
      let c = contains_has steps s.0 s.1 in
      elim (ltb c.0 n) as (λ b. ltb c.0 n ≡ b → Has (receives_of (take n steps)) u) [
        | true ↦ λ h.
            let lt : c.0 < n = grind (arith, nat_tests) in
            subst (λ (x : Receive). Has (receives_of (take n steps)) x) s.2
            (has_receive (take n steps) s.0 (subst (λ (x : Step). Has (take n steps) x) c.2 (front_at n steps c.0 s.0 lt c.1)))
        | false ↦ λ h.
            let ge : n ≤ c.0 = grind (arith, nat_tests) in
            let f = sym (ap (λ (x : Step). leb (call_of x) call) c.2) ∙ above c.0 s.0 ge c.1 in
            let t = ap (λ (x : Receive). leb x.name.call call) s.2 ∙ p.1 in absurd (cc)
      ] refl

  front_told : IsLane steps → IsLatestOf (filter (is_within (Some call)) (receives_of steps)) (end_of None (take n steps))
  front_told lane =
      same_latest (receives_of (take n steps)) (filter (is_within (Some call)) (receives_of steps)) (end_of None (take n steps)) front_within within_front
      (told (take n steps) (latest_front None n steps lane.latest))

pub latest_all : (limit : Option ℕ) (steps : List Step) (n : ℕ) (o : Option (Option ℕ)) → IsLane steps → limit ≡ None → n ≡ length steps → o ≡ end_of None (take n steps) → IsLatestOf (filter (is_within limit) (receives_of steps)) o
latest_all limit steps n o lane none long is =
    subst (λ (l : Option ℕ). IsLatestOf (filter (is_within l) (receives_of steps)) o) (sym none)
    (subst (λ (x : Option (Option ℕ)). IsLatestOf (filter (is_within None) (receives_of steps)) x) (sym is) (all_told steps n long lane))

pub latest_before : (limit : Option ℕ) (steps : List Step) (call n : ℕ) (o : Option (Option ℕ)) → IsLane steps → limit ≡ Some call →
    IsPartitionPoint (λ (s : Step). leb (call_of s) call ≡ true) (λ (s : Step). leb (call_of s) call ≡ false) steps n → o ≡ end_of None (take n steps) → IsLatestOf (filter (is_within limit) (receives_of steps)) o
latest_before limit steps call n o lane some point is =
    subst (λ (l : Option ℕ). IsLatestOf (filter (is_within l) (receives_of steps)) o) (sym some)
    (subst (λ (x : Option (Option ℕ)). IsLatestOf (filter (is_within (Some call)) (receives_of steps)) x) (sym is)
    (front_told steps call n (λ k d lt. point.0 k d (omega arith) lt) (λ k d ge lt. point.1 k d ge lt) lane))
