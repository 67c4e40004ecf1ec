-- Communicators in rising order: a stable sort by number leaves what each number names.
use Rattle.std.proofs.Common.{◌≡◌, ℕ, ◌==◌, ◌&&◌, not, ◌∙◌, Bool, true, false, List, [], ◌∷◌, refl, ap, sym, arith, Option, Some, None}
use Rattle.std.proofs.lemmas.Grind.{common_steps}
use Rattle.std.proofs.lemmas.Bool.Decides.{nat_tests}
use Rattle.std.specs.List.{filter}
use Rattle.std.specs.List.Sorted.{IsStableByKey, ties}
use Rattle.std.specs.Ordering.{is_lt, nat_cmp}
use Rattle.mpi_model.specs.declared.object.Object.TheVariants.{Communicator as a_communicator}
use Rattle.mpi_model.specs.Communicators.{Communicator, one_of}

-- the sort's own test of one number
abbrev has_number : ℕ → Communicator → Bool
has_number n = ties (λ g h. is_lt (nat_cmp g.comm h.comm)) (record { comm = n; object = a_communicator; members = []; remote_size = 0; numbers = [] })

abbrev first_one : List Communicator → Option Communicator
first_one [] = None
first_one (g ∷ gs) = Some g

tie_is : (m n : ℕ) → (not (is_lt (nat_cmp m n)) && not (is_lt (nat_cmp n m))) ≡ (n == m)
tie_is m n = grind (arith, nat_tests, common_steps)

one_first : (n : ℕ) (gs : List Communicator) → one_of gs n ≡ first_one (filter (has_number n) gs)
one_first n [] = refl
one_first n (g ∷ gs) = step (g.comm == n) refl (one_first n gs)
  where
    step : (t : Bool) → (g.comm == n) ≡ t → one_of gs n ≡ first_one (filter (has_number n) gs)
        → one_of (g ∷ gs) n ≡ first_one (filter (has_number n) (g ∷ gs))
    step true e rest = rw (tie_is n g.comm, e) refl
    step false e rest = rw (tie_is n g.comm, e) rest

pub found_stays : (given sorted : List Communicator) → IsStableByKey (λ g. g.comm) nat_cmp given sorted → (n : ℕ) → one_of sorted n ≡ one_of given n
found_stays given sorted stable n =
    one_first n sorted ∙ ap first_one (stable (record { comm = n; object = a_communicator; members = []; remote_size = 0; numbers = [] })) ∙ sym (one_first n given)
