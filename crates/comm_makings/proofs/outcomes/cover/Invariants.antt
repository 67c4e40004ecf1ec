use Rattle.std.proofs.Common.{◌≡◌, ◌||◌, ℕ, Bool, Some, drop}
use Rattle.std.specs.List.{slice_get}
use Rattle.comm_groups.specs.Groups.{has}
use Rattle.comm_makings.proofs.outcomes.cover.Given as goal

abbrev pub invariant-loop-place : goal.invariant-loop-place
invariant-loop-place l = (k : ℕ) (b : Bool) → slice_get l.covered.items k ≡ Some b
    → (a : Bool) × (slice_get l.initial.covered.items k ≡ Some a) × ((b || has (drop l.place-index l.places) k) ≡ (a || has l.places k))
