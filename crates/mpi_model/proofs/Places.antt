-- Communicators found by halves.
use Rattle.std.proofs.Common.{◌≡◌, ◌==◌, ℕ, zero, suc, ◌+◌, ◌-◌, ◌<◌, ◌≤◌, true, false, List, [], Some, None, length, get_or, refl, ap, sym, arith, option_map, ◌⊎◌, ⊎_elim}
use Rattle.std.specs.Prelude.{find, slice_get}
use Rattle.std.proofs.lemmas.Grind.{common_steps}
use Rattle.std.proofs.lemmas.Bool.Decides.{nat_tests}
use Rattle.std.proofs.lemmas.Cmp.{ranked}
use Rattle.std.proofs.lemmas.List.{get_or-map, length-map}
use Rattle.std.proofs.lemmas.List.Sorted.{IsNonDecreasingBy-from_default}
use Rattle.std.proofs.lemmas.Option.{slice_get-get_or, slice_get_past}
use Rattle.std.specs.List.Sorted.{IsNonDecreasingBy, IsPartitionPoint, IsStrictlyIncreasing}
use Rattle.std.specs.Ordering.{nat_cmp, ordering_index}
use Rattle.std.specs.declared.cmp.Ordering.TheVariants.{Less, Equal, Greater}
use Rattle.mpi_model.specs.declared.object.Object.TheVariants.{Communicator as a_communicator}
use Rattle.mpi_model.specs.Communicators.{Communicator, one_of, ids}
use Rattle.mpi_model.proofs.Finds.{find_by, find_none}

abbrev pub none : Communicator
none = record { comm = 0; object = a_communicator; members = []; remote_size = 0; numbers = [] }

abbrev pub number_at : List Communicator → ℕ → ℕ
number_at gs i = (get_or gs i none).comm

pub sides : (a b : ℕ) → (a < b) ⊎ (b ≤ a)
sides a b = grind arith

below_differs : (a b : ℕ) → a < b → (a == b) ≡ false
below_differs a b lt = grind (arith, nat_tests, common_steps)

above_differs : (a b : ℕ) → b < a → (a == b) ≡ false
above_differs a b lt = grind (arith, nat_tests, common_steps)

equals_itself : (a b : ℕ) → a ≡ b → (a == b) ≡ true
equals_itself a b same = grind (arith, nat_tests, common_steps)

indices_rise : (a b n : ℕ) → a ≤ b → ordering_index (nat_cmp a n) ≤ ordering_index (nat_cmp b n)
indices_rise a b n le = grind (arith, nat_tests)

module _ (gs : List Communicator) (up : IsStrictlyIncreasing (ids gs)) where
  next_rises : (i : ℕ) → i + 1 < length gs → number_at gs i < number_at gs (i + 1)
  next_rises i lt =
      let long : length (ids gs) ≡ length gs = length-map gs (λ (g : Communicator). g.comm) in
      let here : get_or (ids gs) i 0 ≡ number_at gs i = get_or-map (λ (g : Communicator). g.comm) gs i none 0 (omega (arith, lt)) in
      let next : get_or (ids gs) (i + 1) 0 ≡ number_at gs (i + 1) = get_or-map (λ (g : Communicator). g.comm) gs (i + 1) none 0 lt in
      let rise : get_or (ids gs) i 0 < get_or (ids gs) (i + 1) 0 = up i (omega (arith, long, lt)) in
      omega (arith, here, next, rise)

  further : (i n j : ℕ) → j ≡ i + n + 1 → j < length gs → number_at gs i < number_at gs j
  further i zero j e lt = let same : j ≡ i + 1 = omega arith in rw same (next_rises i (omega arith))
  further i (suc n) j e lt =
      let before : number_at gs i < number_at gs (i + n + 1) = further i n (i + n + 1) refl (omega arith) in
      let step : number_at gs (i + n + 1) < number_at gs (i + n + 1 + 1) = next_rises (i + n + 1) (omega arith) in
      let same : j ≡ i + n + 1 + 1 = omega arith in
      let total : number_at gs i < number_at gs (i + n + 1 + 1) = omega (arith, before, step) in
      rw same total

  -- the ids rise from any place to any later one
  rises : (i j : ℕ) → i < j → j < length gs → number_at gs i < number_at gs j
  rises i j lt in_range = further i (j - i - 1) j (omega arith) in_range

  never_falls : (i j : ℕ) → i ≤ j → j < length gs → number_at gs i ≤ number_at gs j
  never_falls i j le in_range = ⊎_elim
      (λ (lt : i < j). omega (arith, rises i j lt in_range))
      (λ (ge : j ≤ i). let same : i ≡ j = omega (arith, ge, le) in let numbers_same : number_at gs i ≡ number_at gs j = ap (number_at gs) same in omega (arith, numbers_same))
      (sides i j)

  -- the comparisons with a number rise, as a search by halves asks
  pub comparisons_rise : (n : ℕ) → IsNonDecreasingBy (λ g. ordering_index (nat_cmp g.comm n)) gs
  comparisons_rise n = IsNonDecreasingBy-from_default (λ g. ordering_index (nat_cmp g.comm n)) gs none (λ i j le in_range. indices_rise (number_at gs i) (number_at gs j) n (never_falls i j le in_range))

  -- the communicator at a place is the one of its number
  pub found_at : (at n : ℕ) → at < length gs → number_at gs at ≡ n → find (λ g. g.comm == n) gs ≡ Some (get_or gs at none)
  found_at at n low same = find_by (λ g. g.comm == n) gs at (get_or gs at none) none (slice_get-get_or gs at none low) (equals_itself (number_at gs at) n same)
      (λ j lt. below_differs (number_at gs j) n (omega (arith, rises j at lt low, same)))

  -- what a search by halves that succeeds tells
  pub place_found : (n at : ℕ) → at < length gs → nat_cmp (number_at gs at) n ≡ Equal → slice_get gs at ≡ one_of gs n
  place_found n at low equal =
      let here : slice_get gs at ≡ Some (get_or gs at none) = slice_get-get_or gs at none low in
      let same : number_at gs at ≡ n = ranked (number_at gs at) n Equal (sym equal) in
      rw (here, found_at at n low same) refl

  missed : (n at : ℕ) → IsPartitionPoint (λ g. nat_cmp g.comm n ≡ Less) (λ g. nat_cmp g.comm n ≡ Greater) gs at → (j : ℕ) → j < length gs → (number_at gs j == n) ≡ false
  missed n at parted j lt = ⊎_elim
      (λ (low : j < at). let k : number_at gs j < n = ranked (number_at gs j) n Less (sym (parted.0 j none (omega arith) low)) in below_differs (number_at gs j) n k)
      (λ (high : at ≤ j). let k : n < number_at gs j = ranked (number_at gs j) n Greater (sym (parted.1 j none high lt)) in above_differs (number_at gs j) n k)
      (sides j at)

  -- what a search by halves that fails tells
  pub place_missed : (n at : ℕ) → IsPartitionPoint (λ g. nat_cmp g.comm n ≡ Less) (λ g. nat_cmp g.comm n ≡ Greater) gs at
      → slice_get gs (length gs) ≡ one_of gs n
  place_missed n at parted =
      let missing : find (λ g. g.comm == n) gs ≡ None = find_none (λ g. g.comm == n) gs none (missed n at parted) in
      let past : slice_get gs (length gs) ≡ None = slice_get_past gs (length gs) (omega arith) in
      rw (past, missing) refl
