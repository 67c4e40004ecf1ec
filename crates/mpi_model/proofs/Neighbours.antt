-- Numbers in order: where two are equal two neighbours are.
use Rattle.std.proofs.Common.{◌≡◌, ◌≢◌, ℕ, ◌+◌, ◌<◌, ◌≤◌, ◌==◌, true, false, List, length, get_or, arith}
use Rattle.std.proofs.lemmas.Grind.{common_steps}
use Rattle.std.proofs.lemmas.Bool.Decides.{nat_tests}
use Rattle.std.proofs.lemmas.List.{get_or_default}
use Rattle.std.specs.List.Sorted.{IsNonDecreasing}
use Rattle.mpi_model.specs.Communicators.{has_double}
use Rattle.mpi_model.proofs.Pairs.{pair_at, pair_free}

pub flips : (x y : ℕ) → (y == x) ≡ (x == y)
flips x y = grind (arith, nat_tests, common_steps)

equal : (a b : ℕ) → a ≡ b → (b == a) ≡ true
equal a b e = grind (arith, nat_tests, common_steps)

differ : (a b : ℕ) → a < b → (b == a) ≡ false
differ a b lt = grind (arith, nat_tests, common_steps)

pub doubled : (xs : List ℕ) (i : ℕ) → i + 1 < length xs → get_or xs i 0 ≡ get_or xs (i + 1) 0 → has_double xs ≡ true
doubled xs i lt same = pair_at (λ x y. y == x) xs i (i + 1) 0 (omega arith) lt (equal (get_or xs i 0) (get_or xs (i + 1) 0) same)

pub single : (xs : List ℕ) → IsNonDecreasing xs → ((k : ℕ) → k + 1 < length xs → get_or xs k 0 ≢ get_or xs (k + 1) 0) → has_double xs ≡ false
single xs up near = pair_free (λ x y. y == x) xs (λ i j d lt in_range.
    let a : get_or xs i 0 ≤ get_or xs (i + 1) 0 = up i (i + 1) 0 (omega arith) (omega arith) in
    let b : get_or xs (i + 1) 0 ≤ get_or xs j 0 = up (i + 1) j 0 (omega arith) in_range in
    let c = near i (omega arith) in
    let e : get_or xs i 0 < get_or xs j 0 = omega (arith, a, b, c) in
    rw (get_or_default xs i d 0 (omega arith), get_or_default xs j d 0 in_range) (differ (get_or xs i 0) (get_or xs j 0) e))
