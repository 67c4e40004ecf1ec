use Rattle.std.proofs.Common.{◌≡◌, ◌<◌, ℕ, Bool, Option, Some, true}
use Rattle.std.specs.List.{slice_get}
use Rattle.comm_makings.specs.Makes.{is_given_so}
use Rattle.comm_makings.specs.declared.here.Here.{Here}
use Rattle.comm_makings.proofs.outcomes.all_given.Given as goal

abbrev pub invariant-loop-place : goal.invariant-loop-place
invariant-loop-place l = (k : ℕ) (here : Option Here) → k < l.place → slice_get l.all k ≡ Some here → (b : Bool) × (slice_get l.covered k ≡ Some b) × (is_given_so l.later b here ≡ true)
