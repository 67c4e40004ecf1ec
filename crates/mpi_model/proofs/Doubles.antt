-- Doubles by a mark for each number.
use Rattle.std.proofs.Common.{◌≡◌, ℕ, ◌==◌, ◌||◌, ◌<◌, Bool, true, false, List, [], ◌∷◌, length, nat_le, get_or, refl, arith, replicate}
use Rattle.std.proofs.Math.ListN.{set, length-set}
use Rattle.std.proofs.lemmas.List.{get_or-replicate}
use Rattle.std.proofs.lemmas.Grind.{common_steps}
use Rattle.std.specs.List.{list_any}
use Rattle.mpi_model.specs.Communicators.{has_double}

-- some number of the list is marked when it is reached, each one being marked in its turn
abbrev pub doubles : List Bool → List ℕ → Bool
doubles seen [] = false
doubles seen (x ∷ xs) = get_or seen x false || doubles (set seen x true) xs

regroup : (a b c d : Bool) → (a || ((b || c) || d)) ≡ ((a || c) || (b || d))
regroup true b c d = refl
regroup false true true d = refl
regroup false true false d = refl
regroup false false true d = refl
regroup false false false d = refl

regroup4 : (a b c d : Bool) → ((a || b) || (c || d)) ≡ ((a || c) || (b || d))
regroup4 true b c d = refl
regroup4 false true true d = refl
regroup4 false true false d = refl
regroup4 false false true d = refl
regroup4 false false false d = refl

mark_at : (seen : List Bool) (x y : ℕ) → x < length seen → get_or (set seen x true) y false ≡ ((y == x) || get_or seen y false)
mark_at seen x y low = grind (arith, common_steps)

marks : (seen : List Bool) (x : ℕ) (xs : List ℕ) → x < length seen
    → list_any (λ y. get_or (set seen x true) y false) xs ≡ (list_any (λ y. y == x) xs || list_any (λ y. get_or seen y false) xs)
marks seen x [] low = refl
marks seen x (y ∷ ys) low = rw (mark_at seen x y low, marks seen x ys low) (regroup4 (y == x) (get_or seen y false) (list_any (λ z. z == x) ys) (list_any (λ z. get_or seen z false) ys))

pub doubles-marked : (seen : List Bool) (xs : List ℕ) → list_any (λ r. nat_le (length seen) r) xs ≡ false
    → doubles seen xs ≡ (list_any (λ y. get_or seen y false) xs || has_double xs)
doubles-marked seen [] h = refl
doubles-marked seen (x ∷ xs) h =
    let low : x < length seen = grind (arith, common_steps) in
    let rest : list_any (λ r. nat_le (length seen) r) xs ≡ false = grind (arith, common_steps) in
    let same : length (set seen x true) ≡ length seen = length-set seen x true in
    let more : doubles (set seen x true) xs ≡ _ = doubles-marked (set seen x true) xs (rw same rest) in
    rw (more, marks seen x xs low) (regroup (get_or seen x false) (list_any (λ y. y == x) xs) (list_any (λ y. get_or seen y false) xs) (has_double xs))

none_marked : (n : ℕ) (xs : List ℕ) → list_any (λ r. nat_le n r) xs ≡ false → list_any (λ y. get_or (replicate n false) y false) xs ≡ false
none_marked n [] h = refl
none_marked n (x ∷ xs) h =
    let low : x < n = grind (arith, common_steps) in
    let rest : list_any (λ r. nat_le n r) xs ≡ false = grind (arith, common_steps) in
    rw (get_or-replicate n x false false low, none_marked n xs rest) refl

-- with no mark at first
pub unmarked : (seen : List Bool) (n : ℕ) (xs : List ℕ) → seen ≡ replicate n false → length seen ≡ n → list_any (λ r. nat_le n r) xs ≡ false → doubles seen xs ≡ has_double xs
unmarked seen n xs e len h = rw (doubles-marked seen xs (rw len h), e, none_marked n xs h) refl
