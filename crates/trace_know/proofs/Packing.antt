-- Runs in chunks.
use Rattle.std.proofs.Common.{◌≡◌, ℕ, suc, zero, ◌+◌, ◌-◌, ◌*◌, ◌<◌, ◌≤◌, min, List, [], ◌∷◌, ◌++◌, length, length-append, append_assoc, take, slice_index_or, slice_set, refl, sym, ap, subst, ◌∙◌, arith}
use Rattle.std.specs.List.{insert, remove}
use Rattle.std.specs.VecDeque.{deque_capacity}
use Rattle.std.specs.declared.collections.VecDeque.{VecDeque}
use Rattle.std.proofs.lemmas.List.{get_or_append_left, get_or-append-add, set-append_left, set-append_right}
use Rattle.std.proofs.lemmas.List.Edits.{insert-append_left, insert-append_right, length-insert, get_or-insert_at, get_or-insert_below, get_or-insert_above}
use Rattle.trace_know.specs.declared.chunks.TheConstants.{CHUNK}
use Rattle.trace_know.specs.Chunks.{in_chunks, IsPacked}

module _ {X : Type 0} where
  -- an item right behind a list
  right-behind : (xs ys : List X) (n : ℕ) (y : X) → length xs ≡ n → insert (xs ++ ys) n y ≡ (xs ++ y ∷ []) ++ ys
  right-behind xs ys n y full =
      let none : n - n ≡ 0 = omega arith in
      insert-append_right xs ys n n y full (omega arith) ∙ ap (λ (m : ℕ). xs ++ insert ys m y) none ∙ sym (append_assoc xs (y ∷ []) ys)

  -- ---- what a list was before an item was put in

  pub before-put : (xs : List X) (i : ℕ) (x : X) → i ≤ length xs → remove (insert xs i x) i ≡ xs
  before-put [] zero x h = refl
  before-put [] (suc i) x h = absurd (omega arith)
  before-put (y ∷ xs) zero x h = refl
  before-put (y ∷ xs) (suc i) x h = ap (λ (zs : List X). y ∷ zs) (before-put xs i x (omega arith))

  pub put-value : (xs ys : List X) (i : ℕ) (x : X) → i ≤ length xs → insert xs i x ≡ ys → x ≡ slice_index_or ys i x
  put-value xs ys i x h is = sym (get_or-insert_at xs i x x h) ∙ ap (λ (zs : List X). slice_index_or zs i x) is

  pub put-rest : (xs ys : List X) (i : ℕ) (x : X) → i ≤ length xs → insert xs i x ≡ ys → xs ≡ remove ys i
  put-rest xs ys i x h is = sym (before-put xs i x h) ∙ ap (λ (zs : List X). remove zs i) is

  pub put-length : (xs ys : List X) (i : ℕ) (x : X) → i ≤ length xs → insert xs i x ≡ ys → length xs + 1 ≡ length ys
  put-length xs ys i x h is = sym (length-insert xs i x h) ∙ ap (λ (zs : List X). length zs) is

  pub put-below : (xs ys : List X) (i k : ℕ) (x d : X) → i ≤ length xs → insert xs i x ≡ ys → k < i → slice_index_or xs k d ≡ slice_index_or ys k d
  put-below xs ys i k x d h is l = sym (get_or-insert_below xs i x d k l h) ∙ ap (λ (zs : List X). slice_index_or zs k d) is

  pub put-above : (xs ys : List X) (i k : ℕ) (x d : X) → i ≤ length xs → insert xs i x ≡ ys → i ≤ k → slice_index_or xs k d ≡ slice_index_or ys (k + 1) d
  put-above xs ys i k x d h is l = sym (get_or-insert_above xs i x d k l h) ∙ ap (λ (zs : List X). slice_index_or zs (k + 1) d) is

  pub less-last : (xs : List X) (n : ℕ) → n + 1 ≡ length xs → remove xs n ≡ take n xs
  less-last [] n h = absurd (omega arith)
  less-last (x ∷ []) zero h = refl
  less-last (x ∷ y ∷ xs) zero h = absurd (omega arith)
  less-last (x ∷ xs) (suc n) h = ap (λ (zs : List X). x ∷ zs) (less-last xs n (omega arith))

  -- an item taken out, and put in again
  pub taken-out : (xs : List X) (i : ℕ) (x : X) → i < length xs → x ≡ slice_index_or xs i x → insert (remove xs i) i x ≡ xs
  taken-out [] i x h is = absurd (omega arith)
  taken-out (y ∷ xs) zero x h is = λ j. is j ∷ xs
  taken-out (y ∷ xs) (suc i) x h is = ap (λ (zs : List X). y ∷ zs) (taken-out xs i x (omega arith) is)

module _ {X Z : Type 0} where
  -- ---- what packed chunks have

  pub packed-length : (len room : ℕ) (cs : List (VecDeque X Z)) → IsPacked len room cs → length (in_chunks cs) ≡ len
  packed-length len room [] h = sym h.0
  packed-length len room (c ∷ cs) h =
      let more = packed-length (len - CHUNK) (room - CHUNK) cs h.2 in
      let here = h.0 in
      let both = length-append c.items (in_chunks cs) in
      omega arith

  -- an index that is taken is in a chunk
  pub chunk-there : (len room k : ℕ) (cs : List (VecDeque X Z)) → IsPacked len room cs → k * CHUNK < len → k < length cs
  chunk-there len room k [] h l = absurd (let none = h.0 in omega arith)
  chunk-there len room zero (c ∷ cs) h l = omega arith
  chunk-there len room (suc k) (c ∷ cs) h l = let more = chunk-there (len - CHUNK) (room - CHUNK) k cs h.2 (omega arith) in omega arith

  -- so is one that there is room for
  pub room-there : (len room k : ℕ) (cs : List (VecDeque X Z)) → IsPacked len room cs → k * CHUNK < room → k < length cs
  room-there len room k [] h l = absurd (let none = h.1 in omega arith)
  room-there len room zero (c ∷ cs) h l = omega arith
  room-there len room (suc k) (c ∷ cs) h l = let more = room-there (len - CHUNK) (room - CHUNK) k cs h.2 (omega arith) in omega arith

  -- there is no more room than the chunks have
  pub room-within : (len room : ℕ) (cs : List (VecDeque X Z)) → IsPacked len room cs → room ≤ length cs * CHUNK
  room-within len room [] h = let none = h.1 in omega arith
  room-within len room (c ∷ cs) h = let more = room-within (len - CHUNK) (room - CHUNK) cs h.2 in omega arith

  -- the chunk at an index has as many as come to it, and room for them
  pub chunk-len : (len room k : ℕ) (cs : List (VecDeque X Z)) (old : VecDeque X Z) → IsPacked len room cs → k < length cs → old ≡ slice_index_or cs k old → length old.items ≡ min CHUNK (len - k * CHUNK)
  chunk-len len room k [] old h l is = absurd (omega arith)
  chunk-len len room zero (c ∷ cs) old h l is = let here = h.0 in let same = ap (λ (x : VecDeque X Z). length x.items) is in omega arith
  chunk-len len room (suc k) (c ∷ cs) old h l is = let more = chunk-len (len - CHUNK) (room - CHUNK) k cs old h.2 (omega arith) is in omega arith

  pub chunk-room : (len room k : ℕ) (cs : List (VecDeque X Z)) (old : VecDeque X Z) → IsPacked len room cs → k < length cs → old ≡ slice_index_or cs k old → min CHUNK (room - k * CHUNK) ≤ deque_capacity old
  chunk-room len room k [] old h l is = absurd (omega arith)
  chunk-room len room zero (c ∷ cs) old h l is = let here = h.1 in let same = ap (λ (x : VecDeque X Z). deque_capacity x) is in omega arith
  chunk-room len room (suc k) (c ∷ cs) old h l is = let more = chunk-room (len - CHUNK) (room - CHUNK) k cs old h.2 (omega arith) is in omega arith

  pub item-at : (len room k p : ℕ) (cs : List (VecDeque X Z)) (old : VecDeque X Z) (x : X) → IsPacked len room cs → k < length cs → old ≡ slice_index_or cs k old → p < length old.items
      → slice_index_or (in_chunks cs) (k * CHUNK + p) x ≡ slice_index_or old.items p x
  item-at len room k p [] old x h l is m = absurd (omega arith)
  item-at len room zero p (c ∷ cs) old x h l is m =
      let same : zero * CHUNK + p ≡ p = omega arith in
      let size = ap (λ (y : VecDeque X Z). length y.items) is in
      ap (λ (n : ℕ). slice_index_or (c.items ++ in_chunks cs) n x) same ∙ get_or_append_left c.items (in_chunks cs) x p (omega arith)
      ∙ sym (ap (λ (y : VecDeque X Z). slice_index_or y.items p x) is)
  item-at len room (suc k) p (c ∷ cs) old x h l is m =
      let rest = chunk-len (len - CHUNK) (room - CHUNK) k cs old h.2 (omega arith) is in
      let here = h.0 in
      let far : suc k * CHUNK + p ≡ length c.items + (k * CHUNK + p) = omega arith in
      ap (λ (n : ℕ). slice_index_or (c.items ++ in_chunks cs) n x) far ∙ get_or-append-add c.items (in_chunks cs) (k * CHUNK + p) x
      ∙ item-at (len - CHUNK) (room - CHUNK) k p cs old x h.2 (omega arith) is m

  -- ---- one chunk set

  -- to one with as many
  pub packed-set : (len room k : ℕ) (cs : List (VecDeque X Z)) (new old : VecDeque X Z) → IsPacked len room cs → k < length cs → old ≡ slice_index_or cs k old
      → length new.items ≡ length old.items → deque_capacity old ≤ deque_capacity new → IsPacked len room (slice_set cs k new)
  packed-set len room k [] new old h l is same wide = absurd (omega arith)
  packed-set len room zero (c ∷ cs) new old h l is same wide =
      let here = h.0 in
      let room_here = h.1 in
      let size = ap (λ (y : VecDeque X Z). length y.items) is in
      let cap = ap (λ (y : VecDeque X Z). deque_capacity y) is in
      (omega arith, omega arith, h.2)
  packed-set len room (suc k) (c ∷ cs) new old h l is same wide = (h.0, h.1, packed-set (len - CHUNK) (room - CHUNK) k cs new old h.2 (omega arith) is same wide)

  -- the last of them to one with one more
  pub packed-more : (len room k : ℕ) (cs : List (VecDeque X Z)) (new old : VecDeque X Z) → IsPacked len room cs → k < length cs → old ≡ slice_index_or cs k old → k * CHUNK ≤ len → len < k * CHUNK + CHUNK
      → length new.items ≡ length old.items + 1 → deque_capacity old ≤ deque_capacity new → IsPacked (len + 1) room (slice_set cs k new)
  packed-more len room k [] new old h l is from to more wide = absurd (omega arith)
  packed-more len room zero (c ∷ cs) new old h l is from to more wide =
      let here = h.0 in
      let room_here = h.1 in
      let size = ap (λ (y : VecDeque X Z). length y.items) is in
      let cap = ap (λ (y : VecDeque X Z). deque_capacity y) is in
      let rest : len - CHUNK ≡ len + 1 - CHUNK = omega arith in
      (omega arith, omega arith, subst (λ (n : ℕ). IsPacked n (room - CHUNK) cs) rest h.2)
  packed-more len room (suc k) (c ∷ cs) new old h l is from to more wide =
      let here = h.0 in
      let rest : len - CHUNK + 1 ≡ len + 1 - CHUNK = omega arith in
      (omega arith, h.1, subst (λ (n : ℕ). IsPacked n (room - CHUNK) (slice_set cs k new)) rest (packed-more (len - CHUNK) (room - CHUNK) k cs new old h.2 (omega arith) is (omega arith) (omega arith) more wide))

  -- the last of them to one with one less
  pub packed-less : (len room k : ℕ) (cs : List (VecDeque X Z)) (new old : VecDeque X Z) → IsPacked len room cs → k < length cs → old ≡ slice_index_or cs k old → k * CHUNK < len → len ≤ k * CHUNK + CHUNK
      → length new.items + 1 ≡ length old.items → deque_capacity old ≤ deque_capacity new → IsPacked (len - 1) room (slice_set cs k new)
  packed-less len room k [] new old h l is from to less wide = absurd (omega arith)
  packed-less len room zero (c ∷ cs) new old h l is from to less wide =
      let here = h.0 in
      let room_here = h.1 in
      let size = ap (λ (y : VecDeque X Z). length y.items) is in
      let cap = ap (λ (y : VecDeque X Z). deque_capacity y) is in
      let rest : len - CHUNK ≡ len - 1 - CHUNK = omega arith in
      (omega arith, omega arith, subst (λ (n : ℕ). IsPacked n (room - CHUNK) cs) rest h.2)
  packed-less len room (suc k) (c ∷ cs) new old h l is from to less wide =
      let here = h.0 in
      let rest : len - CHUNK - 1 ≡ len - 1 - CHUNK = omega arith in
      (omega arith, h.1, subst (λ (n : ℕ). IsPacked n (room - CHUNK) (slice_set cs k new)) rest (packed-less (len - CHUNK) (room - CHUNK) k cs new old h.2 (omega arith) is (omega arith) (omega arith) less wide))

  -- the last that there is room in has more
  pub packed-wider : (len room wider k : ℕ) (cs : List (VecDeque X Z)) → IsPacked len room cs → k < length cs → k * CHUNK ≤ room → room ≤ wider → wider ≤ k * CHUNK + CHUNK
      → ((d : VecDeque X Z) → wider ≤ k * CHUNK + deque_capacity (slice_index_or cs k d)) → IsPacked len wider cs
  packed-wider len room wider k [] h l from more to wide = absurd (omega arith)
  packed-wider len room wider zero (c ∷ cs) h l from more to wide =
      let rest : room - CHUNK ≡ wider - CHUNK = omega arith in
      let here = wide c in
      (h.0, omega arith, subst (λ (n : ℕ). IsPacked (len - CHUNK) n cs) rest h.2)
  packed-wider len room wider (suc k) (c ∷ cs) h l from more to wide =
      let room_here = h.1 in (
        h.0,
        omega arith,
        packed-wider (len - CHUNK) (room - CHUNK) (wider - CHUNK) k cs h.2 (omega arith) (omega arith) (omega arith) (omega arith)
            (λ d. let there = wide d in omega arith),
      )

  -- one with none behind them
  pub packed-behind : (len room : ℕ) (cs : List (VecDeque X Z)) (new : VecDeque X Z) → IsPacked len room cs → new.items ≡ [] → IsPacked len room (cs ++ new ∷ [])
  packed-behind len room [] new h none =
      let no_len = h.0 in
      let no_room = h.1 in
      let size = ap (λ (xs : List X). length xs) none in
      (omega arith, omega arith, (omega arith, omega arith))
  packed-behind len room (c ∷ cs) new h none = (h.0, h.1, packed-behind (len - CHUNK) (room - CHUNK) cs new h.2 none)

  pub in-behind : (cs : List (VecDeque X Z)) (new : VecDeque X Z) → new.items ≡ [] → in_chunks (cs ++ new ∷ []) ≡ in_chunks cs
  in-behind [] new none = ap (λ (xs : List X). xs ++ []) none
  in-behind (c ∷ cs) new none = ap (λ (xs : List X). c.items ++ xs) (in-behind cs new none)

  pub in-same : (k : ℕ) (cs : List (VecDeque X Z)) (new old : VecDeque X Z) → k < length cs → old ≡ slice_index_or cs k old → new.items ≡ old.items → in_chunks (slice_set cs k new) ≡ in_chunks cs
  in-same k [] new old l is same = refl
  in-same zero (c ∷ cs) new old l is same = ap (λ (xs : List X). xs ++ in_chunks cs) (same ∙ ap (λ (y : VecDeque X Z). y.items) is)
  in-same (suc k) (c ∷ cs) new old l is same = ap (λ (xs : List X). c.items ++ xs) (in-same k cs new old (omega arith) is same)

  -- one item set
  pub in-item : (len room k p : ℕ) (cs : List (VecDeque X Z)) (new old : VecDeque X Z) (x : X) → IsPacked len room cs → k < length cs → old ≡ slice_index_or cs k old → p < length old.items
      → new.items ≡ slice_set old.items p x → in_chunks (slice_set cs k new) ≡ slice_set (in_chunks cs) (k * CHUNK + p) x
  in-item len room k p [] new old x h l is m set = absurd (omega arith)
  in-item len room zero p (c ∷ cs) new old x h l is m set =
      let place : p ≡ zero * CHUNK + p = omega arith in
      let size = ap (λ (y : VecDeque X Z). length y.items) is in
      ap (λ (xs : List X). xs ++ in_chunks cs) (set ∙ ap (λ (y : VecDeque X Z). slice_set y.items p x) is)
      ∙ sym (set-append_left c.items (in_chunks cs) p x (omega arith)) ∙ ap (λ (n : ℕ). slice_set (c.items ++ in_chunks cs) n x) place
  in-item len room (suc k) p (c ∷ cs) new old x h l is m set =
      let rest = chunk-len (len - CHUNK) (room - CHUNK) k cs old h.2 (omega arith) is in
      let here = h.0 in
      let full : length c.items ≡ CHUNK = omega arith in
      let less : k * CHUNK + p ≡ suc k * CHUNK + p - CHUNK = omega arith in
      ap (λ (xs : List X). c.items ++ xs) (in-item (len - CHUNK) (room - CHUNK) k p cs new old x h.2 (omega arith) is m set)
      ∙ ap (λ (n : ℕ). c.items ++ slice_set (in_chunks cs) n x) less
      ∙ sym (set-append_right c.items (in_chunks cs) CHUNK (suc k * CHUNK + p) x full (omega arith))

  -- ---- an item put in, and taken out

  -- into a chunk that is not full
  pub put-last : (len room k p : ℕ) (cs : List (VecDeque X Z)) (new old : VecDeque X Z) (x : X) → IsPacked len room cs → k < length cs → old ≡ slice_index_or cs k old → k * CHUNK ≤ len → p ≤ length old.items
      → new.items ≡ insert old.items p x → in_chunks (slice_set cs k new) ≡ insert (in_chunks cs) (k * CHUNK + p) x
  put-last len room k p [] new old x h l is from at put = absurd (omega arith)
  put-last len room zero p (c ∷ cs) new old x h l is from at put =
      let same : p ≡ zero * CHUNK + p = omega arith in
      let size = ap (λ (y : VecDeque X Z). length y.items) is in
      ap (λ (xs : List X). xs ++ in_chunks cs) (put ∙ ap (λ (y : VecDeque X Z). insert y.items p x) is)
      ∙ sym (insert-append_left c.items (in_chunks cs) p x (omega arith)) ∙ ap (λ (n : ℕ). insert (c.items ++ in_chunks cs) n x) same
  put-last len room (suc k) p (c ∷ cs) new old x h l is from at put =
      let here = h.0 in
      let full : length c.items ≡ CHUNK = omega arith in
      let less : k * CHUNK + p ≡ suc k * CHUNK + p - CHUNK = omega arith in
      ap (λ (xs : List X). c.items ++ xs) (put-last (len - CHUNK) (room - CHUNK) k p cs new old x h.2 (omega arith) is (omega arith) at put)
      ∙ ap (λ (n : ℕ). c.items ++ insert (in_chunks cs) n x) less
      ∙ sym (insert-append_right c.items (in_chunks cs) CHUNK (suc k * CHUNK + p) x full (omega arith))

  -- out of a chunk behind which none has any
  pub taken-last : (len room k p : ℕ) (cs : List (VecDeque X Z)) (new old : VecDeque X Z) (x : X) → IsPacked len room cs → k < length cs → old ≡ slice_index_or cs k old → k * CHUNK ≤ len → p ≤ length new.items
      → insert new.items p x ≡ old.items → insert (in_chunks (slice_set cs k new)) (k * CHUNK + p) x ≡ in_chunks cs
  taken-last len room k p [] new old x h l is from at put = absurd (omega arith)
  taken-last len room zero p (c ∷ cs) new old x h l is from at put =
      let same : zero * CHUNK + p ≡ p = omega arith in
      ap (λ (n : ℕ). insert (new.items ++ in_chunks cs) n x) same ∙ insert-append_left new.items (in_chunks cs) p x at
      ∙ ap (λ (xs : List X). xs ++ in_chunks cs) (put ∙ ap (λ (y : VecDeque X Z). y.items) is)
  taken-last len room (suc k) p (c ∷ cs) new old x h l is from at put =
      let here = h.0 in
      let full : length c.items ≡ CHUNK = omega arith in
      let less : suc k * CHUNK + p - CHUNK ≡ k * CHUNK + p = omega arith in
      insert-append_right c.items (in_chunks (slice_set cs k new)) CHUNK (suc k * CHUNK + p) x full (omega arith)
      ∙ ap (λ (n : ℕ). c.items ++ insert (in_chunks (slice_set cs k new)) n x) less
      ∙ ap (λ (xs : List X). c.items ++ xs) (taken-last (len - CHUNK) (room - CHUNK) k p cs new old x h.2 (omega arith) is (omega arith) at put)

  -- into a full chunk: its last is still to be put behind it
  pub passed-on : (len room k p : ℕ) (cs : List (VecDeque X Z)) (new old : VecDeque X Z) (x y : X) → IsPacked len room cs → k < length cs → old ≡ slice_index_or cs k old → (k + 1) * CHUNK ≤ len → p ≤ length old.items
      → length new.items ≡ length old.items → new.items ++ y ∷ [] ≡ insert old.items p x
      → insert (in_chunks (slice_set cs k new)) ((k + 1) * CHUNK + 0) y ≡ insert (in_chunks cs) (k * CHUNK + p) x
  passed-on len room k p [] new old x y h l is from at same put = absurd (omega arith)
  passed-on len room zero p (c ∷ cs) new old x y h l is from at same put =
      let here = h.0 in
      let size = ap (λ (z : VecDeque X Z). length z.items) is in
      let full : length new.items ≡ (zero + 1) * CHUNK + 0 = omega arith in
      let place : p ≡ zero * CHUNK + p = omega arith in
      right-behind new.items (in_chunks cs) ((zero + 1) * CHUNK + 0) y full ∙ ap (λ (xs : List X). xs ++ in_chunks cs) (put ∙ ap (λ (z : VecDeque X Z). insert z.items p x) is)
      ∙ sym (insert-append_left c.items (in_chunks cs) p x (omega arith)) ∙ ap (λ (n : ℕ). insert (c.items ++ in_chunks cs) n x) place
  passed-on len room (suc k) p (c ∷ cs) new old x y h l is from at same put =
      let here = h.0 in
      let full : length c.items ≡ CHUNK = omega arith in
      let one : (suc k + 1) * CHUNK + 0 - CHUNK ≡ (k + 1) * CHUNK + 0 = omega arith in
      let other : k * CHUNK + p ≡ suc k * CHUNK + p - CHUNK = omega arith in
      insert-append_right c.items (in_chunks (slice_set cs k new)) CHUNK ((suc k + 1) * CHUNK + 0) y full (omega arith)
      ∙ ap (λ (n : ℕ). c.items ++ insert (in_chunks (slice_set cs k new)) n y) one
      ∙ ap (λ (xs : List X). c.items ++ xs) (passed-on (len - CHUNK) (room - CHUNK) k p cs new old x y h.2 (omega arith) is (omega arith) at same put)
      ∙ ap (λ (n : ℕ). c.items ++ insert (in_chunks cs) n x) other
      ∙ sym (insert-append_right c.items (in_chunks cs) CHUNK (suc k * CHUNK + p) x full (omega arith))

  -- out of a full chunk, with the first of the next behind its last
  pub passed-back : (len room k p : ℕ) (cs : List (VecDeque X Z)) (new old : VecDeque X Z) (x y : X) → IsPacked len room cs → k < length cs → old ≡ slice_index_or cs k old → (k + 1) * CHUNK ≤ len → p ≤ length new.items
      → insert new.items p x ≡ old.items ++ y ∷ []
      → insert (in_chunks (slice_set cs k new)) (k * CHUNK + p) x ≡ insert (in_chunks cs) ((k + 1) * CHUNK + 0) y
  passed-back len room k p [] new old x y h l is from at put = absurd (omega arith)
  passed-back len room zero p (c ∷ cs) new old x y h l is from at put =
      let here = h.0 in
      let full : length c.items ≡ (zero + 1) * CHUNK + 0 = omega arith in
      let place : zero * CHUNK + p ≡ p = omega arith in
      ap (λ (n : ℕ). insert (new.items ++ in_chunks cs) n x) place ∙ insert-append_left new.items (in_chunks cs) p x at
      ∙ ap (λ (xs : List X). xs ++ in_chunks cs) (put ∙ ap (λ (z : VecDeque X Z). z.items ++ y ∷ []) is) ∙ sym (right-behind c.items (in_chunks cs) ((zero + 1) * CHUNK + 0) y full)
  passed-back len room (suc k) p (c ∷ cs) new old x y h l is from at put =
      let here = h.0 in
      let full : length c.items ≡ CHUNK = omega arith in
      let one : suc k * CHUNK + p - CHUNK ≡ k * CHUNK + p = omega arith in
      let other : (k + 1) * CHUNK + 0 ≡ (suc k + 1) * CHUNK + 0 - CHUNK = omega arith in
      insert-append_right c.items (in_chunks (slice_set cs k new)) CHUNK (suc k * CHUNK + p) x full (omega arith)
      ∙ ap (λ (n : ℕ). c.items ++ insert (in_chunks (slice_set cs k new)) n x) one
      ∙ ap (λ (xs : List X). c.items ++ xs) (passed-back (len - CHUNK) (room - CHUNK) k p cs new old x y h.2 (omega arith) is (omega arith) at put)
      ∙ ap (λ (n : ℕ). c.items ++ insert (in_chunks cs) n y) other
      ∙ sym (insert-append_right c.items (in_chunks cs) CHUNK ((suc k + 1) * CHUNK + 0) y full (omega arith))
