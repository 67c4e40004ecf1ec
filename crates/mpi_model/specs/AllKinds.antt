-- What holds of each kind of collective calls.
use Rattle.std.specs.Prelude.{◌≡◌, ◌<◌, ℕ, Bool, true, Some}
use Rattle.std.specs.List.{list_all}
use Rattle.mpi_model.specs.declared.kind.Kind.{Kind}
use Rattle.mpi_model.specs.Kinds.{all_kinds, kind_number, kind_of}

-- a test that each of the listed kinds passes, each kind passes: a rule for the kinds is proved by a test of the table
abbrev pub TestsEach : Type 0
TestsEach = (test : Kind → Bool) → list_all test all_kinds ≡ true → (kind : Kind) → test kind ≡ true

-- each kind has its number, below that of the kinds
pub record HaveNumbers : Type 0 where
  pub again : (kind : Kind) → kind_of (kind_number kind) ≡ Some kind
  pub back : (number : ℕ) (kind : Kind) → kind_of number ≡ Some kind → kind_number kind ≡ number
  pub below : (kind : Kind) → kind_number kind < 75
