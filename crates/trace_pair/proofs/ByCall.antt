-- The calls of one rank, of one part each, among those of the others.
use Rattle.std.proofs.Common.{subst, ◌≡◌, ℕ, true, List, [], ◌∷◌, ◌++◌, inl, inr, ⊎_elim, sym, refl, ◌∙◌, ap, ◌⊎◌, ◌+◌, ◌<◌, length, take, drop, get_or}
use Rattle.std.proofs.lemmas.List.{take_more, take-append-drop}
use Rattle.mpi_model.specs.declared.message.Message.{Message}
use Rattle.mpi_model.specs.declared.message.Receive.{Receive}
use Rattle.trace_ops.specs.Order.{sent_before, posted_before, Has}
use Rattle.trace_pair.specs.Calls.{AddsMessage, AddsReceives, AreSentByCall, ArePostedByCall, IsOwnReceive, IsPostingByCall, IsSequence, between}
use Rattle.trace_pair.proofs.Alone.{the_one}
use Rattle.trace_pair.proofs.Ranks.{has_left, has_right, has_either}

-- ---- one element more behind those of the rank

module _ {X : Type 0} (before after xs : List X) where
  -- an element is one of those before, of the rank's, or of those after
  one_of : (x : X) (P : Type 0) → Has (between before xs after) x → (Has before x → P) → (Has xs x → P) → (Has after x → P) → P
  one_of x P i first own last = ⊎_elim (λ (j : Has (before ++ xs) x). ⊎_elim first own (has_either before xs x j)) last (has_either (before ++ xs) after x i)

  of_before : (x : X) → Has before x → Has (between before xs after) x
  of_before x i = has_left (before ++ xs) after x (has_left before xs x i)

  of_own : (x : X) → Has xs x → Has (between before xs after) x
  of_own x i = has_left (before ++ xs) after x (has_right before xs x i)

  of_after : (x : X) → Has after x → Has (between before xs after) x
  of_after x i = has_right (before ++ xs) after x i

module _ {X : Type 0} (before after xs : List X) (m : X) where
  next_old : (n : X) → Has (between before xs after) n → Has (between before (xs ++ m ∷ []) after) n
  next_old n i = one_of before after xs n (Has (between before (xs ++ m ∷ []) after) n) i
      (λ j. of_before before after (xs ++ m ∷ []) n j) (λ j. of_own before after (xs ++ m ∷ []) n (has_left xs (m ∷ []) n j)) (λ j. of_after before after (xs ++ m ∷ []) n j)

  next_new : Has (between before (xs ++ m ∷ []) after) m
  next_new = of_own before after (xs ++ m ∷ []) m (has_right xs (m ∷ []) m (inl refl))

  next_cases : (n : X) → Has (between before (xs ++ m ∷ []) after) n → Has (between before xs after) n ⊎ (n ≡ m)
  next_cases n i = one_of before after (xs ++ m ∷ []) n (Has (between before xs after) n ⊎ (n ≡ m)) i
      (λ j. inl (of_before before after xs n j))
      (λ j. ⊎_elim (λ (k : Has xs n). inl (of_own before after xs n k)) (λ (k : Has (m ∷ []) n). inr (the_one m n k)) (has_either xs (m ∷ []) n j))
      (λ j. inl (of_after before after xs n j))

-- ---- messages

order_before : (xs ys : List Message) (m n : Message) → AreSentByCall (xs ++ m ∷ ys) → Has xs n → sent_before n m ≡ true
order_before [] ys m n o i = absurd i
order_before (x ∷ xs) ys m n o i =
    ⊎_elim (λ (e : n ≡ x). subst (λ (z : Message). sent_before z m ≡ true) (sym e) (o.0 m (has_right xs (m ∷ ys) m (inl refl)))) (λ j. order_before xs ys m n o.1 j) i

pub sent_front : (xs ys : List Message) → AreSentByCall (xs ++ ys) → AreSentByCall xs
sent_front [] ys o = tt
sent_front (x ∷ xs) ys o = (λ n i. o.0 n (has_left xs ys n i), sent_front xs ys o.1)

pub sequence_front : (before after xs ys : List Message) → IsSequence before after (xs ++ ys) → IsSequence before after xs
sequence_front before after xs ys s = record {
  own = λ m i. s.own m (has_left xs ys m i);
  order = sent_front xs ys s.order;
  apart_before = λ n m i j. s.apart_before n m i (has_left xs ys m j);
  apart_after = λ n m i j. s.apart_after n m i (has_left xs ys m j);
}

-- the next message of the rank
pub adds_next : (before after xs ys : List Message) (m : Message) → IsSequence before after (xs ++ m ∷ ys) → AddsMessage (between before xs after) (between before (xs ++ m ∷ []) after) m
adds_next before after xs ys m s =
    let last : Has (xs ++ m ∷ ys) m = has_right xs (m ∷ ys) m (inl refl) in
    record {
      own = s.own m last;
      old = next_old before after xs m;
      new = next_new before after xs m;
      cases = next_cases before after xs m;
      behind = λ n i e. one_of before after xs n (sent_before n m ≡ true) i (λ k. absurd (s.apart_before n m k last e)) (λ k. order_before xs ys m n s.order k) (λ k. absurd (s.apart_after n m k last e));
    }

-- the message at a place of the rank, behind those before it
pub adds_at : (before after held : List Message) (i : ℕ) (d : Message) → i < length held → IsSequence before after held → AddsMessage (between before (take i held) after) (between before (take (i + 1) held) after) (get_or held i d)
adds_at before after held i d lt s =
    let e = take_more held i d lt in
    let f = subst (λ (l : List Message). IsSequence before after l) (sym (take-append-drop (i + 1) held)) s in
    let g = sequence_front before after (take (i + 1) held) (drop (i + 1) held) f in
    subst (λ (l : List Message). AddsMessage (between before (take i held) after) (between before l after) (get_or held i d)) (sym e)
    (adds_next before after (take i held) [] (get_or held i d) (subst (λ (l : List Message). IsSequence before after l) e g))

-- ---- receives

posted_order_before : (xs ys : List Receive) (m n : Receive) → ArePostedByCall (xs ++ m ∷ ys) → Has xs n → posted_before n m ≡ true
posted_order_before [] ys m n o i = absurd i
posted_order_before (x ∷ xs) ys m n o i =
    ⊎_elim (λ (e : n ≡ x). subst (λ (z : Receive). posted_before z m ≡ true) (sym e) (o.0 m (has_right xs (m ∷ ys) m (inl refl)))) (λ j. posted_order_before xs ys m n o.1 j) i

pub posted_front : (xs ys : List Receive) → ArePostedByCall (xs ++ ys) → ArePostedByCall xs
posted_front [] ys o = tt
posted_front (x ∷ xs) ys o = (λ n i. o.0 n (has_left xs ys n i), posted_front xs ys o.1)

pub posting_front : (before after xs ys : List Receive) → IsPostingByCall before after (xs ++ ys) → IsPostingByCall before after xs
posting_front before after xs ys s = record {
  own = λ q i. s.own q (has_left xs ys q i);
  order = posted_front xs ys s.order;
  apart_before = λ n m i j. s.apart_before n m i (has_left xs ys m j);
  apart_after = λ n m i j. s.apart_after n m i (has_left xs ys m j);
}

-- a call of one receive more
posts_one : (qs more : List Receive) (q : Receive) → IsOwnReceive q → ((n : Receive) → Has qs n → Has more n) → Has more q → ((n : Receive) → Has more n → Has qs n ⊎ (n ≡ q)) → ((n : Receive) → Has qs n → n.at ≡ q.at → posted_before n q ≡ true) → AddsReceives qs more (q ∷ [])
posts_one qs more q own old new cases behind = record {
  own = λ n i. subst (λ (x : Receive). IsOwnReceive x) (sym (the_one q n i)) own;
  old = old;
  new = λ n i. subst (λ (x : Receive). Has more x) (sym (the_one q n i)) new;
  cases = λ n i. ⊎_elim (λ (j : Has qs n). inl j) (λ (e : n ≡ q). inr (inl e)) (cases n i);
  behind = λ n k i c e. let s = the_one q k c in subst (λ (x : Receive). posted_before n x ≡ true) (sym s) (behind n i (e ∙ ap (λ (x : Receive). x.at) s));
  one_call = λ k n i j. ap (λ (x : Receive). x.name.call) (the_one q n j ∙ sym (the_one q k i));
  distinct = (λ i. i, tt);
}

-- the next receive of the rank
pub posts_next : (before after xs ys : List Receive) (m : Receive) → IsPostingByCall before after (xs ++ m ∷ ys) → AddsReceives (between before xs after) (between before (xs ++ m ∷ []) after) (m ∷ [])
posts_next before after xs ys m s =
    let last : Has (xs ++ m ∷ ys) m = has_right xs (m ∷ ys) m (inl refl) in
    posts_one (between before xs after) (between before (xs ++ m ∷ []) after) m (s.own m last) (next_old before after xs m) (next_new before after xs m) (next_cases before after xs m)
    (λ n i e. one_of before after xs n (posted_before n m ≡ true) i (λ k. absurd (s.apart_before n m k last e)) (λ k. posted_order_before xs ys m n s.order k) (λ k. absurd (s.apart_after n m k last e)))

-- the receive at a place of the rank, behind those before it
pub posts_at : (before after held : List Receive) (i : ℕ) (d : Receive) → i < length held → IsPostingByCall before after held → AddsReceives (between before (take i held) after) (between before (take (i + 1) held) after) (get_or held i d ∷ [])
posts_at before after held i d lt s =
    let e = take_more held i d lt in
    let f = subst (λ (l : List Receive). IsPostingByCall before after l) (sym (take-append-drop (i + 1) held)) s in
    let g = posting_front before after (take (i + 1) held) (drop (i + 1) held) f in
    subst (λ (l : List Receive). AddsReceives (between before (take i held) after) (between before l after) (get_or held i d ∷ [])) (sym e)
    (posts_next before after (take i held) [] (get_or held i d) (subst (λ (l : List Receive). IsPostingByCall before after l) e g))
