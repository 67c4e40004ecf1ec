-- By what the calls of MPI_Comm_create_group on one parent match: those of one group and one tag match in their order
-- (MPI 4.0, 7.4.2).
use Rattle.std.specs.Prelude.{◌≡◌, ◌≢◌, ◌⊎◌, ◌+◌, ℕ, ℤ, List, [], ◌∷◌}

-- the ranks of a group, in its order, and a tag
pub record GroupKey : Type 0 where
  pub group : List ℕ
  pub tag : ℤ

-- these ranks with this tag
abbrev pub key_with : List ℕ → ℤ → GroupKey
key_with group tag = record { group = group; tag = tag }

-- So many of the keys are this one.
abbrev pub Times : GroupKey → List GroupKey → ℕ → Type 0
Times key [] count = count ≡ 0
Times key (other ∷ others) count = ((other ≡ key) × ((fewer : ℕ) × (count ≡ fewer + 1) × Times key others fewer)) ⊎ ((other ≢ key) × Times key others count)
