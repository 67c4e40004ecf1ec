-- The receives of one rank among those of the others.
use Rattle.std.proofs.Common.{subst, ◌≡◌, ℕ, true, ◌&&◌, List, [], ◌∷◌, ◌++◌, inl, inr, ⊎_elim, sym, ◌∙◌, ap, ◌≤◌, arith, append_assoc, take, drop, eqb, ltb}
use Rattle.std.proofs.lemmas.Bool.Decides.{nat_tests}
use Rattle.std.proofs.lemmas.List.{take-take, take-append-drop}
use Rattle.std.specs.Prelude.{slice_range}
use Rattle.mpi_model.specs.declared.message.Receive.{Receive}
use Rattle.trace_ops.specs.Order.{posted_before, Has, ArePosted, named_before}
use Rattle.trace_pair.specs.Calls.{AddsReceives, between, IsPosting, AreDistinct, IsOneCall, IsWhole}
use Rattle.trace_pair.proofs.Obeyed.{and_true, both}
use Rattle.trace_pair.proofs.Ranks.{has_left, has_right, has_either, listed_earlier, stretch_then, range_is}

-- what stands in front is of earlier calls, where no call has parts on both sides
order_before : (xs ys : List Receive) (n m : Receive) → ArePosted (xs ++ ys) → Has xs n → Has ys m → (n.name.call ≡ m.name.call → ⊥) → posted_before n m ≡ true
order_before [] ys n m o i j apart = absurd i
order_before (x ∷ xs) ys n m o i j apart =
    ⊎_elim (λ (e : n ≡ x). subst (λ (z : Receive). posted_before z m ≡ true) (sym e) (before_of x m (o.0 m (has_right xs ys m j)) (λ f. apart (ap (λ (z : Receive). z.name.call) e ∙ f))))
    (λ k. order_before xs ys n m o.1 k j apart) i
  where
    before_of : (n m : Receive) → ((eqb n.at m.at) && named_before n.name m.name) ≡ true → (n.name.call ≡ m.name.call → ⊥) → posted_before n m ≡ true
    before_of n m h apart =
        let p = both (eqb n.at m.at) (named_before n.name m.name) h in
        and_true (eqb n.at m.at) (ltb n.name.call m.name.call) p.0 (listed_earlier n.name m.name p.1 apart)

pub order_front : (xs ys : List Receive) → ArePosted (xs ++ ys) → ArePosted xs
order_front [] ys o = tt
order_front (x ∷ xs) ys o = (λ n i. o.0 n (has_left xs ys n i), order_front xs ys o.1)

order_back : (xs ys : List Receive) → ArePosted (xs ++ ys) → ArePosted ys
order_back [] ys o = o
order_back (x ∷ xs) ys o = order_back xs ys o.1

not_before_itself : (m : Receive) → ((eqb m.at m.at) && named_before m.name m.name) ≡ true → ⊥
not_before_itself m h = grind (arith, nat_tests)

-- in order none stands twice
pub distinct_order : (ms : List Receive) → ArePosted ms → AreDistinct ms
distinct_order [] o = tt
distinct_order (m ∷ ms) o = (λ i. not_before_itself m (o.0 m i), distinct_order ms o.1)

-- the receives of the next call of the rank
pub adds_next : (before after xs call ys : List Receive) → IsPosting before after (xs ++ (call ++ ys)) → IsOneCall (λ (m : Receive). m.name.call) call
    → ((n m : Receive) → Has xs n → Has call m → n.name.call ≡ m.name.call → ⊥) → AddsReceives (between before xs after) (between before (xs ++ call) after) call
adds_next before after xs call ys s one apart =
    let there : (m : Receive) → Has call m → Has (xs ++ (call ++ ys)) m = λ m i. has_right xs (call ++ ys) m (has_left call ys m i) in
    record {
      own = λ m i. s.own m (there m i);
      old = λ n i. ⊎_elim
          (λ (j : Has (before ++ xs) n). has_left (before ++ (xs ++ call)) after n (⊎_elim
          (λ (k : Has before n). has_left before (xs ++ call) n k)
          (λ (k : Has xs n). has_right before (xs ++ call) n (has_left xs call n k)) (has_either before xs n j)))
          (λ (j : Has after n). has_right (before ++ (xs ++ call)) after n j) (has_either (before ++ xs) after n i);
      new = λ m i. has_left (before ++ (xs ++ call)) after m (has_right before (xs ++ call) m (has_right xs call m i));
      cases = λ n i. ⊎_elim
          (λ (j : Has (before ++ (xs ++ call)) n). ⊎_elim
          (λ (k : Has before n). inl (has_left (before ++ xs) after n (has_left before xs n k)))
          (λ (k : Has (xs ++ call) n). ⊎_elim
          (λ (l : Has xs n). inl (has_left (before ++ xs) after n (has_right before xs n l)))
          (λ (l : Has call n). inr l) (has_either xs call n k)) (has_either before (xs ++ call) n j))
          (λ (j : Has after n). inl (has_right (before ++ xs) after n j)) (has_either (before ++ (xs ++ call)) after n i);
      behind = λ n m i c e. ⊎_elim
          (λ (j : Has (before ++ xs) n). ⊎_elim
          (λ (k : Has before n). absurd (s.apart_before n m k (there m c) e))
          (λ (k : Has xs n). order_before xs (call ++ ys) n m s.order k (has_left call ys m c) (apart n m k c)) (has_either before xs n j))
          (λ (j : Has after n). absurd (s.apart_after n m j (there m c) e)) (has_either (before ++ xs) after n i);
      one_call = λ m n i j. one m n i j;
      distinct = distinct_order call (order_front call ys (order_back xs (call ++ ys) s.order));
    }

-- the receives from a place on up to another one, where those are all of one call
pub adds_at : (before after held : List Receive) (start end : ℕ) → start ≤ end → IsPosting before after held → IsOneCall (λ (m : Receive). m.name.call) (drop start (take end held)) → IsWhole (λ (m : Receive). m.name.call) held start
    → AddsReceives (between before (take start held) after) (between before (take end held) after) (drop start (take end held))
adds_at before after held start end le s one whole =
    let xs = take start held in
    let call = drop start (take end held) in
    let e : xs ++ call ≡ take end held = ap (λ (l : List Receive). l ++ call) (sym (take-take start end held le)) ∙ take-append-drop start (take end held) in
    let f : xs ++ (call ++ drop end held) ≡ held = sym (append_assoc xs call (drop end held)) ∙ ap (λ (l : List Receive). l ++ drop end held) e ∙ take-append-drop end held in
    let g : call ++ drop end held ≡ drop start held = stretch_then start end held le in
    subst (λ (l : List Receive). AddsReceives (between before xs after) (between before l after) call) e
    (adds_next before after xs call (drop end held) (subst (λ (l : List Receive). IsPosting before after l) (sym f) s) one
    (λ n m i c same. whole n m i (subst (λ (l : List Receive). Has l m) g (has_left call (drop end held) m c)) same))

pub adds_range : (before after held : List Receive) (start end : ℕ) → start ≤ end → IsPosting before after held → IsOneCall (λ (q : Receive). q.name.call) (slice_range held start end) → IsWhole (λ (q : Receive). q.name.call) held start
    → AddsReceives (between before (take start held) after) (between before (take end held) after) (slice_range held start end)
adds_range before after held start end le s one whole =
    let e = range_is start end held le in
    subst (λ (l : List Receive). AddsReceives (between before (take start held) after) (between before (take end held) after) l) e
    (adds_at before after held start end le s (subst (λ (l : List Receive). IsOneCall (λ (q : Receive). q.name.call) l) (sym e) one) whole)
