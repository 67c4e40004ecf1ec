-- Numbers that were sorted stand as insertion puts them.
use Rattle.std.proofs.Common.{◌≡◌, ℕ, suc, ℤ, ◌≤ℤ◌, ◌<ℤ◌, ◌+◌, Bool, true, false, List, [], ◌∷◌, get_or, refl, sym, ◌∙◌, ap, subst, arith, IsPermutation, IsSorted, sum_by}
use Rattle.std.specs.Prelude.{if◌then◌else◌}
use Rattle.std.specs.Ordering.{int_cmp, is_le, is_lt, MatchOrdering}
use Rattle.std.specs.declared.cmp.Ordering.{Ordering}
use Rattle.std.specs.declared.cmp.Ordering.TheVariants.{Less, Equal, Greater}
use Rattle.std.specs.Cmp.{int_ranks}
use Rattle.std.proofs.lemmas.Int.{ints}
use Rattle.std.proofs.lemmas.List.Sorted.{sum_by-IsPermutation}
use Rattle.std.proofs.lemmas.List.Sums.{sum_by-cons}
use Rattle.trace_ops.specs.Active.{put_in, rising}

-- the number is at most each of these
abbrev Below : ℤ → List ℤ → Type 0
Below x [] = Unit {0}
Below x (y ∷ ys) = (x ≤ℤ y) × Below x ys

lower : (x y : ℤ) (ys : List ℤ) → x ≤ℤ y → Below y ys → Below x ys
lower x y [] le b = tt
lower x y (z ∷ zs) le b = let k = b.0 in (omega (arith, ints, le, k), lower x y zs le b.1)

-- each number is at most those behind it
abbrev Rises : List ℤ → Type 0
Rises [] = Unit {0}
Rises (x ∷ xs) = Below x xs × Rises xs

-- the lists hold the same numbers, each as often
abbrev Alike : List ℤ → List ℤ → Type 0
Alike xs ys = (f : ℤ → ℕ) → sum_by f xs ≡ sum_by f ys

-- ---- insertion

put_below : (x y : ℤ) (ys : List ℤ) → x ≤ℤ y → Below x ys → Below x (put_in y ys)
put_below x y [] le b = (le, tt)
put_below x y (z ∷ zs) le b = by (is_le (int_cmp y z)) (put_below x y zs le b.1)
  where
    by : (t : Bool) → Below x (put_in y zs) → Below x (if t then y ∷ z ∷ zs else z ∷ put_in y zs)
    by true more = (le, b)
    by false more = (b.0, more)

put_rises : (x : ℤ) (xs : List ℤ) → Rises xs → Rises (put_in x xs)
put_rises x [] r = (tt, tt)
put_rises x (y ∷ ys) r = by (int_cmp x y) (int_ranks x y) (put_rises x ys r.1)
  where
    by : (o : Ordering) → MatchOrdering o (x <ℤ y) (x ≡ y) (y <ℤ x) → Rises (put_in x ys) → Rises (if is_le o then x ∷ y ∷ ys else y ∷ put_in x ys)
    by Less h more = let le : x ≤ℤ y = omega (arith, ints, h) in ((le, lower x y ys le r.0), r)
    by Equal h more = let le : x ≤ℤ y = omega (arith, ints, h) in ((le, lower x y ys le r.0), r)
    by Greater h more = (put_below y x ys (omega (arith, ints, h)) r.0, more)

rising_rises : (xs : List ℤ) → Rises (rising xs)
rising_rises [] = tt
rising_rises (x ∷ xs) = put_rises x (rising xs) (rising_rises xs)

put_alike : (f : ℤ → ℕ) (x : ℤ) (xs : List ℤ) → sum_by f (put_in x xs) ≡ sum_by f (x ∷ xs)
put_alike f x [] = refl
put_alike f x (y ∷ ys) = by (is_le (int_cmp x y)) (put_alike f x ys)
  where
    by : (t : Bool) → sum_by f (put_in x ys) ≡ sum_by f (x ∷ ys) → sum_by f (if t then x ∷ y ∷ ys else y ∷ put_in x ys) ≡ sum_by f (x ∷ y ∷ ys)
    by true more = refl
    by false more = omega (arith, more, sum_by-cons f y (put_in x ys), sum_by-cons f x (y ∷ ys), sum_by-cons f y ys, sum_by-cons f x ys)

rising_alike : (xs : List ℤ) → Alike (rising xs) xs
rising_alike [] f = refl
rising_alike (x ∷ xs) f = omega (arith, put_alike f x (rising xs), sum_by-cons f x (rising xs), sum_by-cons f x xs, rising_alike xs f)

-- ---- two lists that rise and hold the same

-- 1 of a number that compares as less
abbrev count : Ordering → ℕ
count Less = 1
count o = 0

-- 1 of a number below y
abbrev under : ℤ → ℤ → ℕ
under y z = count (int_cmp z y)

none_under : (y z : ℤ) → y ≤ℤ z → under y z ≡ 0
none_under y z le = by (int_cmp z y) (int_ranks z y)
  where
    by : (o : Ordering) → MatchOrdering o (z <ℤ y) (z ≡ y) (y <ℤ z) → count o ≡ 0
    by Less h = absurd (omega (arith, ints, h, le))
    by Equal h = refl
    by Greater h = refl

not_under : (y z : ℤ) → under y z ≡ 0 → y ≤ℤ z
not_under y z e = by (int_cmp z y) (int_ranks z y) e
  where
    by : (o : Ordering) → MatchOrdering o (z <ℤ y) (z ≡ y) (y <ℤ z) → count o ≡ 0 → y ≤ℤ z
    by Less h e = absurd (omega (arith, e))
    by Equal h e = omega (arith, ints, h)
    by Greater h e = omega (arith, ints, h)

all_above : (y : ℤ) (ys : List ℤ) → Below y ys → sum_by (under y) ys ≡ 0
all_above y [] b = refl
all_above y (z ∷ zs) b = omega (arith, sum_by-cons (under y) z zs, none_under y z b.0, all_above y zs b.1)

first_least : (x y : ℤ) (xs ys : List ℤ) → Below y ys → Alike (x ∷ xs) (y ∷ ys) → y ≤ℤ x
first_least x y xs ys b a =
    not_under y x (omega (arith, a (under y), sum_by-cons (under y) x xs, sum_by-cons (under y) y ys, none_under y y (omega (arith, ints)), all_above y ys b))

rest_alike : (x y : ℤ) (xs ys : List ℤ) → x ≡ y → Alike (x ∷ xs) (y ∷ ys) → Alike xs ys
rest_alike x y xs ys e a f = omega (arith, a f, sum_by-cons f x xs, sum_by-cons f y ys, ap f e)

same : (xs ys : List ℤ) → Rises xs → Rises ys → Alike xs ys → xs ≡ ys
same [] [] r s a = refl
same [] (y ∷ ys) r s a = absurd (omega (arith, a (λ z. 1), sum_by-cons (λ z. 1) y ys))
same (x ∷ xs) [] r s a = absurd (omega (arith, a (λ z. 1), sum_by-cons (λ z. 1) x xs))
same (x ∷ xs) (y ∷ ys) r s a =
    let low = first_least x y xs ys s.0 a in
    let high = first_least y x ys xs r.0 (λ f. sym (a f)) in
    let e : x ≡ y = omega (arith, ints, low, high) in
    ap (λ (z : ℤ). z ∷ xs) e ∙ ap (λ (l : List ℤ). y ∷ l) (same xs ys r.1 s.1 (rest_alike x y xs ys e a))

-- ---- what a sort gives

not_before : (x y : ℤ) → is_lt (int_cmp y x) ≡ false → x ≤ℤ y
not_before x y e = by (int_cmp y x) (int_ranks y x) e
  where
    by : (o : Ordering) → MatchOrdering o (y <ℤ x) (y ≡ x) (x <ℤ y) → is_lt o ≡ false → x ≤ℤ y
    by Less h e = absurd (cc)
    by Equal h e = omega (arith, ints, h)
    by Greater h e = omega (arith, ints, h)

sorted_rises : (xs : List ℤ) → IsSorted int_cmp xs → Rises xs
sorted_rises [] s = tt
sorted_rises (x ∷ []) s = (tt, tt)
sorted_rises (x ∷ y ∷ ys) s =
    let le = not_before x y (s 0 x (omega arith) (omega arith)) in
    let more = sorted_rises (y ∷ ys) (λ k d from lt.
    let next : suc k + 1 ≡ suc (k + 1) = omega arith in
    subst (λ (m : ℕ). is_lt (int_cmp (get_or (x ∷ y ∷ ys) m d) (get_or (y ∷ ys) k d)) ≡ false) next (s (suc k) d (omega arith) (omega (arith, lt)))) in
    ((le, lower x y ys le more.0), more)

pub sorted_rising : (xs ys : List ℤ) → IsPermutation xs ys → IsSorted int_cmp ys → ys ≡ rising xs
sorted_rising xs ys p s = same ys (rising xs) (sorted_rises ys s) (rising_rises xs) (λ f. sum_by-IsPermutation f xs ys p ∙ sym (rising_alike xs f))
