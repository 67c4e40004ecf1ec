-- Ranks in a list that has none twice.
use Rattle.std.proofs.Common.{◌≡◌, ◌≢◌, ℕ, ◌<◌, ◌≤◌, Bool, true, false, not, List, length, take, get_or, set, refl, arith, ap, ◌∙◌, sym, ⊎_elim, nat_lt, ◌+◌, ◌==◌}
use Rattle.std.specs.List.{list_all}
use Rattle.std.proofs.lemmas.Bool.{and_parts, cases_lt, eq-eqb, le-ltb, not-true, true≢false}
use Rattle.std.proofs.lemmas.List.{get_or-take, length-take-le, get_or-set_same, get_or-set_other}
use Rattle.std.proofs.lemmas.List.Folds.{list_all_at, list_any_at}
use Rattle.comm_groups.specs.Groups.{are_ranks, has, has_double}
use Rattle.comm_groups.proofs.Doubles.{doubled_at}

pub in_range : (size : ℕ) (ranks : List ℕ) (k : ℕ) → are_ranks size ranks ≡ true → k < length ranks → get_or ranks k 0 < size
in_range size ranks k h below =
    let all : list_all (λ r. nat_lt r size) ranks ≡ true = (and_parts (list_all (λ r. nat_lt r size) ranks) (not (has_double ranks)) h).0 in
    ⊎_elim (λ (l : get_or ranks k 0 < size). l)
    (λ (g : size ≤ get_or ranks k 0). absurd (true≢false (sym all ∙ list_all_at (λ r. nat_lt r size) ranks k 0 below (le-ltb (get_or ranks k 0) size g))))
    (cases_lt (get_or ranks k 0) size)

pub apart : (size : ℕ) (ranks : List ℕ) (k i : ℕ) → are_ranks size ranks ≡ true → k < i → i < length ranks → get_or ranks k 0 ≢ get_or ranks i 0
apart size ranks k i h lt below = λ e.
    let single : has_double ranks ≡ false = not-true (has_double ranks) (and_parts (list_all (λ r. nat_lt r size) ranks) (not (has_double ranks)) h).1 in
    let len : length (take i ranks) ≡ i = length-take-le i ranks (omega arith) in
    let here : get_or (take i ranks) k 0 ≡ get_or ranks i 0 = get_or-take i ranks k 0 lt ∙ e in
    let seen : has (take i ranks) (get_or ranks i 0) ≡ true
    = list_any_at (λ x. x == get_or ranks i 0) (take i ranks) k 0 (omega arith) (eq-eqb (get_or (take i ranks) k 0) (get_or ranks i 0) here) in
    true≢false (sym (doubled_at ranks i below seen) ∙ single)

-- a place is written, and those that were written before stay
pub placed_more : (ranks order : List ℕ) (i : ℕ) → are_ranks (length ranks) ranks ≡ true → i < length ranks → length order ≡ length ranks
    → ((k : ℕ) → k < i → get_or order (get_or ranks k 0) 0 ≡ k)
    → (k : ℕ) → k < i + 1 → get_or (set order (get_or ranks i 0) i) (get_or ranks k 0) 0 ≡ k
placed_more ranks order i h below len was k lt =
    let low : get_or ranks i 0 < length ranks = in_range (length ranks) ranks i h below in
    ⊎_elim
    (λ (earlier : k < i). get_or-set_other order (get_or ranks i 0) (get_or ranks k 0) i 0 (apart (length ranks) ranks k i h earlier below) ∙ was k earlier)
    (λ (last : i ≤ k).
    let e : k ≡ i = omega arith in
    ap (λ (j : ℕ). get_or (set order (get_or ranks i 0) i) (get_or ranks j 0) 0) e ∙ get_or-set_same order (get_or ranks i 0) i 0 (omega arith) ∙ sym e)
    (cases_lt k i)
