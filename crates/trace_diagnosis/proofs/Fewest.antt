-- The first three things that have another value, as things are kept or passed over.
use Rattle.std.proofs.Common.{◌≡◌, ◌∙◌, ◌+◌, ◌<◌, ◌≤◌, ◌==◌, ℕ, zero, suc, Bool, true, false, not, cond, List, [], ◌∷◌, ◌++◌, filter, map, length, take, refl, sym, ap, arith, subst, append-nil, le_refl}
use Rattle.std.proofs.lemmas.Bool.{eqb-true}
use Rattle.std.proofs.lemmas.List.{length-map, map-append, take-append-le}
use Rattle.std.proofs.lemmas.List.Elements.{filter-append}
use Rattle.std.proofs.lemmas.List.Filters.{length-filter_both}
use Rattle.trace_diagnosis.specs.Fewest.{HasFewOfEach, IsFullFor, has_other, has_value, others, only_if}
use Rattle.trace_diagnosis.specs.declared.few.Placed.{Placed}

-- what is cut in front
pub cut_front : {X : Type 0} (n : ℕ) (xs ys : List X) → take n (take n xs ++ ys) ≡ take n (xs ++ ys)
cut_front zero xs ys = refl
cut_front (suc n) [] ys = refl
cut_front {X = X} (suc n) (x ∷ xs) ys = ap (λ (l : List X). x ∷ l) (cut_front n xs ys)

pub cut_same : {X : Type 0} (n : ℕ) (xs : List X) → take n xs ≡ take n (take n xs ++ [])
cut_same n xs = sym (cut_front n xs [] ∙ ap (take n) (append-nil xs))

-- how many have a value, where that isn't another
value_is_other : (a v : ℕ) (t : Placed) → (a == v) ≡ false → (t.value == a) ≡ true → not (t.value == v) ≡ true
value_is_other a v t apart e = ap (λ (n : ℕ). not (n == v)) (eqb-true t.value a e) ∙ ap not apart

one_more : (a b : ℕ) (p q : Bool) → (p ≡ true → q ≡ true) → a ≤ b → cond p (suc a) a ≤ cond q (suc b) b
one_more a b true true w le = omega (arith, le)
one_more a b true false w le = absurd (cc (w refl))
one_more a b false true w le = omega (arith, le)
one_more a b false false w le = le

count_cons : {X : Type 0} (p : X → Bool) (x : X) (xs : List X) → length (filter p (x ∷ xs)) ≡ cond (p x) (suc (length (filter p xs))) (length (filter p xs))
count_cons {X = X} p x xs = by (p x)
  where
    by : (b : Bool) → length (cond b (x ∷ filter p xs) (filter p xs)) ≡ cond b (suc (length (filter p xs))) (length (filter p xs))
    by true = refl
    by false = refl

pub value_among_others : (a v : ℕ) → (a == v) ≡ false → (xs : List Placed) → length (filter (has_value a) xs) ≤ length (filter (has_other v) xs)
value_among_others a v apart [] = le_refl 0
value_among_others a v apart (t ∷ xs) =
    let below = one_more (length (filter (has_value a) xs)) (length (filter (has_other v) xs)) (has_value a t) (has_other v t) (value_is_other a v t apart) (value_among_others a v apart xs) in
    omega (arith, below, count_cons (has_value a) t xs, count_cons (has_other v) t xs)

-- three of its value, or six of all
pub full_of_value : (value : ℕ) (xs : List Placed) → 3 ≤ length (filter (has_value value) xs) → IsFullFor value xs
full_of_value value xs three = λ v apart. let more = value_among_others value v apart xs in omega (arith, three, more)

pub full_of_all : (value : ℕ) (xs : List Placed) → HasFewOfEach xs → 6 ≤ length xs → IsFullFor value xs
full_of_all value xs few six = λ v apart.
    let both = length-filter_both (has_value v) (has_other v) (λ t. refl) xs in
    let of_value = few v in
    omega (arith, six, both, of_value)

-- a thing that is passed over
pub passed_thing : (value place : ℕ) (xs : List Placed) → IsFullFor value xs → (v : ℕ) → others xs v ≡ take 3 (others xs v ++ only_if (not (value == v)) place)
passed_thing value place xs full v = by (value == v) refl
  where
    by : (b : Bool) → (value == v) ≡ b → others xs v ≡ take 3 (others xs v ++ only_if (not b) place)
    by true e = cut_same 3 (map (λ (t : Placed). t.place) (filter (has_other v) xs))
    by false e =
        let l = map (λ (t : Placed). t.place) (filter (has_other v) xs) in
        let long : 3 ≤ length l = subst (λ (n : ℕ). 3 ≤ n) (sym (length-map (filter (has_other v) xs) (λ (t : Placed). t.place))) (full v e) in
        sym (cut_front 3 l (place ∷ []) ∙ take-append-le 3 l (place ∷ []) long)

-- a thing that is kept
pub kept_thing : (t : Placed) (xs : List Placed) (v : ℕ) → others (xs ++ t ∷ []) v ≡ take 3 (others xs v ++ only_if (not (t.value == v)) t.place)
kept_thing t xs v =
    let of = λ (u : Placed). u.place in
    ap (take 3) (ap (map of) (filter-append (has_other v) xs (t ∷ [])) ∙ map-append of (filter (has_other v) xs) (filter (has_other v) (t ∷ [])) ∙ ap (λ (l : List ℕ). map of (filter (has_other v) xs) ++ l) (alone (not (t.value == v))))
    ∙ sym (cut_front 3 (map of (filter (has_other v) xs)) (only_if (not (t.value == v)) t.place))
  where
    alone : (b : Bool) → map (λ (u : Placed). u.place) (cond b (t ∷ []) []) ≡ only_if b t.place
    alone true = refl
    alone false = refl

longer : (l : List Placed) (t : Placed) → length (l ++ t ∷ []) ≡ length l + 1
longer [] t = refl
longer (x ∷ l) t = let h = longer l t in omega (arith, h)

pub few_kept : (t : Placed) (xs : List Placed) → HasFewOfEach xs → length (filter (has_value t.value) xs) < 3 → (v : ℕ) → length (filter (has_value v) (xs ++ t ∷ [])) ≤ 3
few_kept t xs few room v = subst (λ (n : ℕ). n ≤ 3) (sym (ap length (filter-append (has_value v) xs (t ∷ [])))) (by (t.value == v) refl)
  where
    by : (b : Bool) → (t.value == v) ≡ b → length (filter (has_value v) xs ++ cond b (t ∷ []) []) ≤ 3
    by true h =
        let less : length (filter (has_value v) xs) < 3 = subst (λ (n : ℕ). length (filter (has_value n) xs) < 3) (eqb-true t.value v h) room in
        let long = longer (filter (has_value v) xs) t in
        omega (arith, less, long)
    by false h = subst (λ (l : List Placed). length l ≤ 3) (sym (append-nil (filter (has_value v) xs))) (few v)
