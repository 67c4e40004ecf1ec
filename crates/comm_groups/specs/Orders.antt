-- The order of ranks that were told which rank they have in a new communicator.
use Rattle.std.specs.Prelude.{◌≡◌, ◌<◌, ℕ, Bool, List, length, slice_index}
use Rattle.comm_groups.specs.Groups.{are_ranks}

-- These are the ranks from 0 on, each once.
abbrev pub are_each_once : List ℕ → Bool
are_each_once told = are_ranks (length told) told

-- At each rank that was told stands who was told it.
pub record IsOrderOf (told order : List ℕ) : Type 0 where
  pub same : length order ≡ length told
  pub placed : (i : ℕ) → i < length told → slice_index order (slice_index told i) ≡ i
