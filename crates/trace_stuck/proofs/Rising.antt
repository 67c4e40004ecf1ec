-- A rising list is known by its members.
use Rattle.std.proofs.Common.{◌≡◌, ◌↔◌, ℕ, suc, ◌+◌, ◌<◌, true, List, [], ◌∷◌, eqb, refl, subst, ⊎_elim, arith, get_or}
use Rattle.std.specs.List.Sorted.{IsStrictlyIncreasing}
use Rattle.std.proofs.lemmas.Bool.Decides.{nat_tests}
use Rattle.trace_stuck.specs.Release.{among}
use Rattle.trace_stuck.proofs.Holds.{either, or_left, or_right}
use Rattle.trace_stuck.proofs.Orders.{is_equal, nothing}

tail_rises : (x : ℕ) (xs : List ℕ) → IsStrictlyIncreasing (x ∷ xs) → IsStrictlyIncreasing xs
tail_rises x xs up = λ k lt.
    let n : suc k + 1 ≡ suc (k + 1) = omega arith in
    subst (λ (j : ℕ). get_or (x ∷ xs) (suc k) 0 < get_or (x ∷ xs) j 0) n (up (suc k) (omega (arith, lt)))

-- the first of a rising list is below all others
above : (x : ℕ) (xs : List ℕ) → IsStrictlyIncreasing (x ∷ xs) → (r : ℕ) → among xs r ≡ true → x < r
above x [] up r a = absurd (cc)
above x (y ∷ ys) up r a =
    let first : x < y = up 0 (omega arith) in
    ⊎_elim (λ (e : eqb y r ≡ true). subst (λ (n : ℕ). x < n) (is_equal y r e) first)
    (λ (b : among ys r ≡ true). let next = above y ys (tail_rises x (y ∷ ys) up) r b in omega (arith, first, next))
    (either (eqb y r) (among ys r) a)

is_first : (x : ℕ) (xs : List ℕ) → among (x ∷ xs) x ≡ true
is_first x xs = or_left (eqb x x) (among xs x) (grind (arith, nat_tests))

-- the head is no more than any member
at_most : (x : ℕ) (xs : List ℕ) → IsStrictlyIncreasing (x ∷ xs) → (r : ℕ) → among (x ∷ xs) r ≡ true → x < r + 1
at_most x xs up r a =
    ⊎_elim (λ (e : eqb x r ≡ true). let i = is_equal x r e in omega (arith, i))
    (λ (b : among xs r ≡ true). let l = above x xs up r b in omega (arith, l))
    (either (eqb x r) (among xs r) a)

-- what is in both lists and past the head is in the tail
in_tail : (x : ℕ) (xs : List ℕ) (r : ℕ) → x < r → among (x ∷ xs) r ≡ true → among xs r ≡ true
in_tail x xs r lt a =
    ⊎_elim (λ (e : eqb x r ≡ true). let i = is_equal x r e in absurd (omega (arith, i, lt))) (λ (b : among xs r ≡ true). b) (either (eqb x r) (among xs r) a)

pub one_list : (first second : List ℕ) → IsStrictlyIncreasing first → IsStrictlyIncreasing second → ((r : ℕ) → (among first r ≡ true) ↔ (among second r ≡ true)) → first ≡ second
one_list [] [] up rise h = refl
one_list [] (y ∷ ys) up rise h = absurd (nothing ((h y).1 (is_first y ys)))
one_list (x ∷ xs) [] up rise h = absurd (nothing ((h x).0 (is_first x xs)))
one_list (x ∷ xs) (y ∷ ys) up rise h =
    let a = at_most x xs up y ((h y).1 (is_first y ys)) in
    let b = at_most y ys rise x ((h x).0 (is_first x xs)) in
    let e : x ≡ y = omega (arith, a, b) in
    let rest : xs ≡ ys = one_list xs ys (tail_rises x xs up) (tail_rises y ys rise) (λ r. (
      λ (i : among xs r ≡ true).
          let past = above x xs up r i in
          in_tail y ys r (omega (arith, past, e)) ((h r).0 (or_right (eqb x r) (among xs r) i)),
      λ (i : among ys r ≡ true).
          let past = above y ys rise r i in
          in_tail x xs r (omega (arith, past, e)) ((h r).1 (or_right (eqb y r) (among ys r) i)),
    )) in
    cc (e, rest)
