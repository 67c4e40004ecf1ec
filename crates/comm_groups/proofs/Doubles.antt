-- Ranks that stand in a list twice.
use Rattle.std.proofs.Common.{◌≡◌, ℕ, ◌+◌, ◌==◌, ◌||◌, ◌<◌, ◌++◌, Bool, true, false, List, [], ◌∷◌, length, take, drop, get_or, refl, arith, ap, ◌∙◌, sym}
use Rattle.std.proofs.lemmas.List.{take-append-drop, take_more}
use Rattle.std.proofs.lemmas.List.Folds.{list_any-append}
use Rattle.std.proofs.lemmas.Grind.{common_steps}
use Rattle.comm_groups.specs.Groups.{has, has_double}

regroup : (a b c d : Bool) → ((a || b) || (c || d)) ≡ ((a || c) || (b || d))
regroup true b c d = refl
regroup false true true d = refl
regroup false true false d = refl
regroup false false true d = refl
regroup false false false d = refl

or_nothing : (b : Bool) → (b || false) ≡ b
or_nothing true = refl
or_nothing false = refl

same_test : (x y : ℕ) → (x == y) ≡ (y == x)
same_test x y = grind (arith, common_steps)

pub has-push : (xs : List ℕ) (y q : ℕ) → has (xs ++ y ∷ []) q ≡ (has xs q || (y == q))
has-push xs y q = list_any-append (λ x. x == q) xs (y ∷ []) ∙ ap (λ b. has xs q || b) (or_nothing (y == q))

pub has_double-push : (xs : List ℕ) (y : ℕ) → has_double (xs ++ y ∷ []) ≡ (has_double xs || has xs y)
has_double-push [] y = refl
has_double-push (x ∷ xs) y = rw (has-push xs y x, has_double-push xs y, same_test y x) (regroup (has xs x) (x == y) (has_double xs) (has xs y))

step : (a b c d : Bool) → (a || b) ≡ true → (b ≡ true → d ≡ true) → ((a || c) || d) ≡ true
step true b c d h k = refl
step false b true d h k = refl
step false b false d h k = k h

pub has_double-append : (xs ys : List ℕ) → has_double xs ≡ true → has_double (xs ++ ys) ≡ true
has_double-append [] ys h = cc
has_double-append (x ∷ xs) ys h =
    rw (list_any-append (λ z. z == x) xs ys) (step (has xs x) (has_double xs) (has ys x) (has_double (xs ++ ys)) h (has_double-append xs ys))

-- the rank at a place stands also before it
pub doubled_at : (xs : List ℕ) (i : ℕ) → i < length xs → has (take i xs) (get_or xs i 0) ≡ true → has_double xs ≡ true
doubled_at xs i below h =
    let both : has_double (take (i + 1) xs) ≡ true = rw (take_more xs i 0 below, has_double-push (take i xs) (get_or xs i 0), h) (or_true (has_double (take i xs))) in
    let whole : take (i + 1) xs ++ drop (i + 1) xs ≡ xs = take-append-drop (i + 1) xs in
    ap has_double (sym whole) ∙ has_double-append (take (i + 1) xs) (drop (i + 1) xs) both
  where
    or_true : (b : Bool) → (b || true) ≡ true
    or_true true = refl
    or_true false = refl

pub single_more : (xs : List ℕ) (i : ℕ) → i < length xs → has_double (take i xs) ≡ false → has (take i xs) (get_or xs i 0) ≡ false → has_double (take (i + 1) xs) ≡ false
single_more xs i below h k = rw (take_more xs i 0 below, has_double-push (take i xs) (get_or xs i 0), h, k) refl

pub has_more : (xs : List ℕ) (i q : ℕ) → i < length xs → has (take (i + 1) xs) q ≡ (has (take i xs) q || (get_or xs i 0 == q))
has_more xs i q below = rw (take_more xs i 0 below) (has-push (take i xs) (get_or xs i 0) q)
