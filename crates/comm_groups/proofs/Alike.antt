-- Ranks of a grid that agree in the dimensions that do not remain.
use Rattle.std.proofs.Common.{◌≡◌, ◌↔◌, ℕ, suc, ◌+◌, ◌*◌, ◌/◌, ◌%◌, ◌<◌, ◌≤◌, ◌==◌, ◌&&◌, Bool, true, false, List, [], ◌∷◌, length, refl, arith, ap, ◌∙◌, sym, nat_lt}
use Rattle.std.proofs.lemmas.Bool.{and_from, and_parts, eq-eqb, eqb-true}
use Rattle.std.proofs.lemmas.Nat.{div-add-mod', div-mul-add, mod-mul-add, mod_below}
use Rattle.comm_groups.specs.Grids.{agree, are_sizes, coords_of, first_alike, grid_size}
use Rattle.comm_groups.proofs.Sizes.{some_rank, rest_le}

first_alike-le : (dims : List ℕ) (remain : List Bool) (r : ℕ) → first_alike dims remain r ≤ r
first_alike-le [] remain r = omega arith
first_alike-le (d ∷ dims) [] r = omega arith
first_alike-le (d ∷ dims) (true ∷ remain) r =
    let rest : first_alike dims remain (r % grid_size dims) ≤ r % grid_size dims = first_alike-le dims remain (r % grid_size dims) in
    let le : r % grid_size dims ≤ r = rest_le r (grid_size dims) in
    omega arith
first_alike-le (d ∷ dims) (false ∷ remain) r =
    let rest : first_alike dims remain (r % grid_size dims) ≤ r % grid_size dims = first_alike-le dims remain (r % grid_size dims) in
    let e : r / grid_size dims * grid_size dims + r % grid_size dims ≡ r = div-add-mod' r (grid_size dims) in
    omega arith

-- both parts of a number below a base are known by the number
same_parts : (p a b x y : ℕ) → x < p → y < p → a * p + x ≡ b * p + y → (a ≡ b) × (x ≡ y)
same_parts p a b x y low down e = (
  sym (div-mul-add a p x low) ∙ ap (λ (n : ℕ). n / p) e ∙ div-mul-add b p y down,
  sym (mod-mul-add a p x low) ∙ ap (λ (n : ℕ). n % p) e ∙ mod-mul-add b p y down,
)

pub alike_agree : (dims : List ℕ) (remain : List Bool) (r q : ℕ) → length remain ≡ length dims → are_sizes dims ≡ true
    → (agree remain (coords_of dims r) (coords_of dims q) ≡ true) ↔ (first_alike dims remain r ≡ first_alike dims remain q)
alike_agree [] [] r q same sizes = (λ _. refl, λ _. refl)
alike_agree [] (keep ∷ remain) r q same sizes = (λ _. refl, λ _. refl)
alike_agree (d ∷ dims) [] r q same sizes = (λ _. refl, λ _. refl)
alike_agree (d ∷ dims) (true ∷ remain) r q same sizes =
    let p : ℕ = grid_size dims in
    let parts = and_parts (nat_lt 0 d) (are_sizes dims) sizes in
    let rest = alike_agree dims remain (r % p) (q % p) (omega arith) parts.1 in
    (λ h. ap (λ (n : ℕ). 0 + n) (rest.0 h), λ e. rest.1 (let f : first_alike dims remain (r % p) ≡ first_alike dims remain (q % p) = omega (arith, e) in f))
alike_agree (d ∷ dims) (false ∷ remain) r q same sizes =
    let p : ℕ = grid_size dims in
    let parts = and_parts (nat_lt 0 d) (are_sizes dims) sizes in
    let some : 0 < p = some_rank dims parts.1 in
    let rest = alike_agree dims remain (r % p) (q % p) (omega arith) parts.1 in
    let x : ℕ = first_alike dims remain (r % p) in
    let y : ℕ = first_alike dims remain (q % p) in
    let low : x < p = let le : x ≤ r % p = first_alike-le dims remain (r % p) in let lt : r % p < p = mod_below r p some in omega arith in
    let down : y < p = let le : y ≤ q % p = first_alike-le dims remain (q % p) in let lt : q % p < p = mod_below q p some in omega arith in (
      λ h.
          let both = and_parts (r / p == q / p) (agree remain (coords_of dims (r % p)) (coords_of dims (q % p))) h in
          let a : r / p ≡ q / p = eqb-true (r / p) (q / p) both.0 in
          let b : x ≡ y = rest.0 both.1 in
          ap (λ (n : ℕ). n * p + x) a ∙ ap (λ (n : ℕ). q / p * p + n) b,
      λ e.
          let both = same_parts p (r / p) (q / p) x y low down e in
          and_from (r / p == q / p) (agree remain (coords_of dims (r % p)) (coords_of dims (q % p))) (eq-eqb (r / p) (q / p) both.0) (rest.1 both.1),
    )
