-- The first places of two lists, which are those of the things that pass one of two tests.
use Rattle.std.proofs.Common.{◌≡◌, ◌∙◌, ◌<◌, ◌≤◌, ◌||◌, ◌==◌, ◌+◌, ℕ, zero, suc, Bool, true, false, Option, Some, None, List, [], ◌∷◌, ◌++◌, slice_get, get_or, length, take, refl, sym, ap, arith, lt-ltb, le-ltb, ne_eqb, eq-eqb, if◌then◌else◌, length-take-le, append-nil, append_assoc, ◌-◌}
use Rattle.std.proofs.lemmas.List.{take_more}
use Rattle.trace_diagnosis.specs.Places.{begun_by, behind, first_of, first_places, lesser, places_from}
use Rattle.trace_diagnosis.specs.Fewest.{only_if}
use Rattle.trace_diagnosis.proofs.Fewest.{cut_front}

-- ---- lists that are cut

head_cut : (p : ℕ) (xs : List ℕ) → slice_get (take (suc p) xs) 0 ≡ slice_get xs 0
head_cut p [] = refl
head_cut p (x ∷ xs) = refl

behind_cut : (k p : ℕ) (xs : List ℕ) → (j : ℕ) × (p ≤ j) × (behind k (take (suc p) xs) ≡ take j (behind k xs))
behind_cut k p [] = (suc p, omega arith, refl)
behind_cut k p (x ∷ xs) = by (x == k)
  where
    by : (b : Bool) → (j : ℕ) × (p ≤ j) × ((if b then take p xs else x ∷ take p xs) ≡ take j (if b then xs else x ∷ xs))
    by true = (p, omega arith, refl)
    by false = (suc p, omega arith, refl)

pub first_of_cut : (n p q : ℕ) (xs ys : List ℕ) → n ≤ p → n ≤ q → first_of n (take p xs) (take q ys) ≡ first_of n xs ys
first_of_cut zero p q xs ys le more = refl
first_of_cut (suc n) zero q xs ys le more = absurd (omega (arith, le))
first_of_cut (suc n) (suc p) zero xs ys le more = absurd (omega (arith, more))
first_of_cut (suc n) (suc p) (suc q) xs ys le more =
    ap (λ (o : Option ℕ). begun_by (lesser o (slice_get (take (suc q) ys) 0)) (λ k. first_of n (behind k (take (suc p) xs)) (behind k (take (suc q) ys)))) (head_cut p xs)
    ∙ ap (λ (o : Option ℕ). begun_by (lesser (slice_get xs 0) o) (λ k. first_of n (behind k (take (suc p) xs)) (behind k (take (suc q) ys)))) (head_cut q ys)
    ∙ by (lesser (slice_get xs 0) (slice_get ys 0)) (λ a b us vs l m. first_of_cut n a b us vs l m)
  where
    by : (o : Option ℕ) → ((a b : ℕ) (us vs : List ℕ) → n ≤ a → n ≤ b → first_of n (take a us) (take b vs) ≡ first_of n us vs) → begun_by o (λ k. first_of n (behind k (take (suc p) xs)) (behind k (take (suc q) ys))) ≡ begun_by o (λ k. first_of n (behind k xs) (behind k ys))
    by None rec = refl
    by (Some k) rec =
        let a = behind_cut k p xs in
        let b = behind_cut k q ys in
        let le_a = a.1 in
        let le_b = b.1 in
        ap (λ (l : List ℕ). k ∷ l)
        (ap (λ (l : List ℕ). first_of n l (behind k (take (suc q) ys))) a.2 ∙ ap (λ (l : List ℕ). first_of n (take a.0 (behind k xs)) l) b.2
        ∙ rec a.0 b.0 (behind k xs) (behind k ys) (omega (arith, le, le_a)) (omega (arith, more, le_b)))

-- ---- the places of those that pass

begun : (n k : ℕ) (ls rs : List ℕ) → lesser (slice_get ls 0) (slice_get rs 0) ≡ Some k → first_of (suc n) ls rs ≡ k ∷ first_of n (behind k ls) (behind k rs)
begun n k ls rs e = ap (λ (o : Option ℕ). begun_by o (λ j. first_of n (behind j ls) (behind j rs))) e

gone : (k : ℕ) (l : List ℕ) → behind k (k ∷ l) ≡ l
gone k l = ap (λ (b : Bool). if b then l else k ∷ l) (eq-eqb k k refl)

none_joined : (n : ℕ) → first_of n [] [] ≡ take n []
none_joined zero = refl
none_joined (suc n) = refl

module _ {X : Type 0} where
  -- the number before all of them stays before them
  behind_later : (p : X → Bool) (n k : ℕ) (xs : List X) → k < n → behind k (places_from p n xs) ≡ places_from p n xs
  behind_later p n k [] lt = refl
  behind_later p n k (x ∷ xs) lt = by (p x) (behind_later p (suc n) k xs (omega (arith, lt)))
    where
      by : (b : Bool) → behind k (places_from p (suc n) xs) ≡ places_from p (suc n) xs → behind k (if b then n ∷ places_from p (suc n) xs else places_from p (suc n) xs) ≡ (if b then n ∷ places_from p (suc n) xs else places_from p (suc n) xs)
      by true rest = ap (λ (b : Bool). if b then places_from p (suc n) xs else n ∷ places_from p (suc n) xs) (ne_eqb n k (λ e. omega (arith, e, lt)))
      by false rest = rest

  before_later : (p : X → Bool) (n k : ℕ) (xs : List X) → k < n → lesser (Some k) (slice_get (places_from p n xs) 0) ≡ Some k
  before_later p n k [] lt = refl
  before_later p n k (x ∷ xs) lt = by (p x) (before_later p (suc n) k xs (omega (arith, lt)))
    where
      by : (b : Bool) → lesser (Some k) (slice_get (places_from p (suc n) xs) 0) ≡ Some k → lesser (Some k) (slice_get (if b then n ∷ places_from p (suc n) xs else places_from p (suc n) xs) 0) ≡ Some k
      by true rest = ap (λ (b : Bool). if b then Some n else Some k) (le-ltb n k (omega (arith, lt)))
      by false rest = rest

  later_before : (p : X → Bool) (n k : ℕ) (xs : List X) → k < n → lesser (slice_get (places_from p n xs) 0) (Some k) ≡ Some k
  later_before p n k [] lt = refl
  later_before p n k (x ∷ xs) lt = by (p x) (later_before p (suc n) k xs (omega (arith, lt)))
    where
      by : (b : Bool) → lesser (slice_get (places_from p (suc n) xs) 0) (Some k) ≡ Some k → lesser (slice_get (if b then n ∷ places_from p (suc n) xs else places_from p (suc n) xs) 0) (Some k) ≡ Some k
      by true rest = ap (λ (b : Bool). if b then Some k else Some n) (lt-ltb k n lt)
      by false rest = rest

  module _ (p q : X → Bool) (k n : ℕ) (x : X) (xs : List X) (rest : (m : ℕ) → first_of m (places_from p (suc k) xs) (places_from q (suc k) xs) ≡ take m (places_from (λ y. p y || q y) (suc k) xs)) where
    joined_by : (a b : Bool) → first_of (suc n) (if a then k ∷ places_from p (suc k) xs else places_from p (suc k) xs) (if b then k ∷ places_from q (suc k) xs else places_from q (suc k) xs)
        ≡ take (suc n) (if a || b then k ∷ places_from (λ y. p y || q y) (suc k) xs else places_from (λ y. p y || q y) (suc k) xs)
    joined_by true true =
        begun n k (k ∷ places_from p (suc k) xs) (k ∷ places_from q (suc k) xs) (ap (λ (b : Bool). if b then Some k else Some k) (le-ltb k k (omega arith)))
        ∙ ap (λ (l : List ℕ). k ∷ first_of n l (behind k (k ∷ places_from q (suc k) xs))) (gone k (places_from p (suc k) xs))
        ∙ ap (λ (l : List ℕ). k ∷ first_of n (places_from p (suc k) xs) l) (gone k (places_from q (suc k) xs)) ∙ ap (λ (l : List ℕ). k ∷ l) (rest n)
    joined_by true false =
        begun n k (k ∷ places_from p (suc k) xs) (places_from q (suc k) xs) (before_later q (suc k) k xs (omega arith))
        ∙ ap (λ (l : List ℕ). k ∷ first_of n l (behind k (places_from q (suc k) xs))) (gone k (places_from p (suc k) xs))
        ∙ ap (λ (l : List ℕ). k ∷ first_of n (places_from p (suc k) xs) l) (behind_later q (suc k) k xs (omega arith)) ∙ ap (λ (l : List ℕ). k ∷ l) (rest n)
    joined_by false true =
        begun n k (places_from p (suc k) xs) (k ∷ places_from q (suc k) xs) (later_before p (suc k) k xs (omega arith))
        ∙ ap (λ (l : List ℕ). k ∷ first_of n l (behind k (k ∷ places_from q (suc k) xs))) (behind_later p (suc k) k xs (omega arith))
        ∙ ap (λ (l : List ℕ). k ∷ first_of n (places_from p (suc k) xs) l) (gone k (places_from q (suc k) xs)) ∙ ap (λ (l : List ℕ). k ∷ l) (rest n)
    joined_by false false = rest (suc n)

  joined_step : (p q : X → Bool) (k : ℕ) (x : X) (xs : List X) → ((m : ℕ) → first_of m (places_from p (suc k) xs) (places_from q (suc k) xs) ≡ take m (places_from (λ y. p y || q y) (suc k) xs)) → (n : ℕ)
      → first_of n (places_from p k (x ∷ xs)) (places_from q k (x ∷ xs)) ≡ take n (places_from (λ y. p y || q y) k (x ∷ xs))
  joined_step p q k x xs rest zero = refl
  joined_step p q k x xs rest (suc n) = joined_by p q k n x xs rest (p x) (q x)

  first_of_passing : (p q : X → Bool) (k : ℕ) (xs : List X) (n : ℕ) → first_of n (places_from p k xs) (places_from q k xs) ≡ take n (places_from (λ x. p x || q x) k xs)
  first_of_passing p q k [] n = none_joined n
  first_of_passing p q k (x ∷ xs) n = joined_step p q k x xs (λ m. first_of_passing p q (suc k) xs m) n

  -- the first places of those that pass one test or the other
  pub first_of_places : (p q : X → Bool) (xs : List X) (ls rs first : List ℕ) → first ≡ first_of 3 ls rs → ls ≡ first_places p xs → rs ≡ first_places q xs → first ≡ first_places (λ x. p x || q x) xs
  first_of_places p q xs ls rs first e a b =
      e ∙ ap (λ (l : List ℕ). first_of 3 l rs) a ∙ ap (λ (l : List ℕ). first_of 3 (first_places p xs) l) b
      ∙ first_of_cut 3 3 3 (places_from p 0 xs) (places_from q 0 xs) (omega arith) (omega arith) ∙ first_of_passing p q 0 xs 3

  places_agree : (p q : X → Bool) → ((x : X) → p x ≡ q x) → (n : ℕ) (xs : List X) → places_from p n xs ≡ places_from q n xs
  places_agree p q same n [] = refl
  places_agree p q same n (x ∷ xs) =
      ap (λ (b : Bool). if b then n ∷ places_from p (suc n) xs else places_from p (suc n) xs) (same x)
      ∙ ap (λ (l : List ℕ). if q x then n ∷ l else l) (places_agree p q same (suc n) xs)

  pub first_places_agree : (p q : X → Bool) → ((x : X) → p x ≡ q x) → (xs : List X) → first_places p xs ≡ first_places q xs
  first_places_agree p q same xs = ap (take 3) (places_agree p q same 0 xs)

  places_none : (p : X → Bool) → ((x : X) → p x ≡ false) → (n : ℕ) (xs : List X) → places_from p n xs ≡ []
  places_none p none n [] = refl
  places_none p none n (x ∷ xs) = ap (λ (b : Bool). if b then n ∷ places_from p (suc n) xs else places_from p (suc n) xs) (none x) ∙ places_none p none (suc n) xs

  pub first_places_none : (p : X → Bool) → ((x : X) → p x ≡ false) → (xs : List X) → first_places p xs ≡ []
  first_places_none p none xs = ap (take 3) (places_none p none 0 xs)

  -- one more behind the others
  places_more : (p : X → Bool) (n : ℕ) (xs : List X) (x : X) → places_from p n (xs ++ x ∷ []) ≡ places_from p n xs ++ only_if (p x) (n + length xs)
  places_more p n [] x = ap (λ (m : ℕ). if p x then m ∷ [] else []) (omega arith)
  places_more p n (y ∷ xs) x =
      ap (λ (l : List ℕ). if p y then n ∷ l else l) (places_more p (suc n) xs x ∙ ap (λ (m : ℕ). places_from p (suc n) xs ++ only_if (p x) m) (omega arith)) ∙ by (p y)
    where
      by : (b : Bool) → (if b then n ∷ (places_from p (suc n) xs ++ only_if (p x) (n + length (y ∷ xs))) else (places_from p (suc n) xs ++ only_if (p x) (n + length (y ∷ xs))))
          ≡ (if b then n ∷ places_from p (suc n) xs else places_from p (suc n) xs) ++ only_if (p x) (n + length (y ∷ xs))
      by true = refl
      by false = refl

  pub first_places_more : (p : X → Bool) (xs : List X) (i : ℕ) (x : X) (old new : List ℕ) → i < length xs → x ≡ get_or xs i x → old ≡ first_places p (take i xs) → new ≡ take 3 (old ++ only_if (p x) i) →
      new ≡ first_places p (take (i + 1) xs)
  first_places_more p xs i x old new lt is before after =
      let grown : take (i + 1) xs ≡ take i xs ++ x ∷ [] = take_more xs i x lt ∙ ap (λ (y : X). take i xs ++ y ∷ []) (sym is) in
      let long : length (take i xs) ≡ i = length-take-le i xs (omega (arith, lt)) in
      after ∙ ap (λ (l : List ℕ). take 3 (l ++ only_if (p x) i)) before ∙ cut_front 3 (places_from p 0 (take i xs)) (only_if (p x) i)
      ∙ ap (λ (m : ℕ). take 3 (places_from p 0 (take i xs) ++ only_if (p x) m)) (omega (arith, long))
      ∙ ap (take 3) (sym (places_more p 0 (take i xs) x)) ∙ ap (first_places p) (sym grown)

-- ---- a step of the loop

pub step_taken : (s k : ℕ) (fs gs ls rs us vs all : List ℕ) → s < 3 → Some k ≡ lesser (slice_get ls 0) (slice_get rs 0) → gs ≡ fs ++ k ∷ [] → us ≡ behind k ls → vs ≡ behind k rs → fs ++ first_of (3 - s) ls rs ≡ all
    → gs ++ first_of (3 - (s + 1)) us vs ≡ all
step_taken s k fs gs ls rs us vs all lt least pushed left right before =
    let n = 3 - (s + 1) in
    let e : 3 - s ≡ suc n = omega (arith, lt) in
    ap (λ (l : List ℕ). l ++ first_of n us vs) pushed ∙ ap (λ (l : List ℕ). (fs ++ k ∷ []) ++ first_of n l vs) left ∙ ap (λ (l : List ℕ). (fs ++ k ∷ []) ++ first_of n (behind k ls) l) right
    ∙ append_assoc fs (k ∷ []) (first_of n (behind k ls) (behind k rs)) ∙ ap (λ (l : List ℕ). fs ++ l) (sym (begun n k ls rs (sym least))) ∙ ap (λ (m : ℕ). fs ++ first_of m ls rs) (sym e) ∙ before

nothing_left : (n : ℕ) (ls rs : List ℕ) → None ≡ lesser (slice_get ls 0) (slice_get rs 0) → first_of n ls rs ≡ []
nothing_left zero ls rs e = refl
nothing_left (suc n) ls rs e = ap (λ (o : Option ℕ). begun_by o (λ k. first_of n (behind k ls) (behind k rs))) (sym e)

pub none_left : (n : ℕ) (fs ls rs all : List ℕ) → None ≡ lesser (slice_get ls 0) (slice_get rs 0) → fs ++ first_of n ls rs ≡ all → fs ≡ all
none_left n fs ls rs all none before = sym (append-nil fs) ∙ ap (λ (l : List ℕ). fs ++ l) (sym (nothing_left n ls rs none)) ∙ before

pub all_taken : (s : ℕ) (fs ls rs all : List ℕ) → 3 ≤ s → fs ++ first_of (3 - s) ls rs ≡ all → fs ≡ all
all_taken s fs ls rs all le before =
    let e : 3 - s ≡ 0 = omega (arith, le) in
    sym (append-nil fs) ∙ ap (λ (m : ℕ). fs ++ first_of m ls rs) (sym e) ∙ before
