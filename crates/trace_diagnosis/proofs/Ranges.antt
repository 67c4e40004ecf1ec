-- The numbers from 0 on, one more.
use Rattle.std.proofs.Common.{◌≡◌, ◌+◌, ◌∙◌, ℕ, Bool, List, [], ◌∷◌, ◌++◌, filter, map, if◌then◌else◌, refl, sym, ap, arith}
use Rattle.std.specs.List.{range_with_len}
use Rattle.std.proofs.lemmas.List.FromFn.{map-range_with_len_more}
use Rattle.std.proofs.lemmas.List.Elements.{filter-append}

same : (xs : List ℕ) → map (λ x. x) xs ≡ xs
same [] = refl
same (x ∷ xs) = ap (λ (l : List ℕ). x ∷ l) (same xs)

-- one number more
pub range_more : (n : ℕ) → range_with_len 0 (n + 1) ≡ range_with_len 0 n ++ n ∷ []
range_more n = sym (same (range_with_len 0 (n + 1))) ∙ map-range_with_len_more (λ x. x) 0 n n (omega arith) ∙ ap (λ (l : List ℕ). l ++ n ∷ []) (same (range_with_len 0 n))

-- the same of what a test keeps
pub filter_more : (p : ℕ → Bool) (n : ℕ) → filter p (range_with_len 0 (n + 1)) ≡ filter p (range_with_len 0 n) ++ (if p n then n ∷ [] else [])
filter_more p n = ap (λ (l : List ℕ). filter p l) (range_more n) ∙ filter-append p (range_with_len 0 n) (n ∷ [])

-- the same of what is made of each
pub map_more : {X : Type 0} (f : ℕ → X) (n : ℕ) → map f (range_with_len 0 (n + 1)) ≡ map f (range_with_len 0 n) ++ f n ∷ []
map_more f n = map-range_with_len_more f 0 n n (omega arith)

-- what is made of one more
pub map_push : {X Y : Type 0} (f : X → Y) (xs : List X) (x : X) → map f (xs ++ x ∷ []) ≡ map f xs ++ f x ∷ []
map_push f [] x = refl
map_push {Y = Y} f (y ∷ ys) x = ap (λ (l : List Y). f y ∷ l) (map_push f ys x)
