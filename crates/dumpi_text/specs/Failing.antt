-- Readers that fail.
use Rattle.std.specs.Prelude.{◌≡◌, ℕ, List, Option}
use Rattle.mpi_model.specs.Failures.{one_more}
use Rattle.dumpi_text.specs.Source.{Rest}

-- A reader of this kind has these bytes left, and has failed so often.
abbrev pub IsRestOf : {R : Type 0} → (R → Option (List ℕ)) → (R → ℕ) → Rest → Type 0
IsRestOf {R = R} left failures rest = (reader : R) × (left reader ≡ rest.left) × (failures reader ≡ rest.failures)

-- A reader of this kind fails, once.
abbrev pub Fails : {R : Type 0} → (R → ℕ) → Type 0
Fails {R = R} failures = (old : R) × (new : R) × (failures new ≡ one_more (failures old))
