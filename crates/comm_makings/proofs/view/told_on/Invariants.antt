use Rattle.std.proofs.Common.{◌≡◌, ℕ, Option, Some, drop, length}
use Rattle.std.specs.List.{slice_get}
use Rattle.comm_makings.specs.Views.{first_told_on, told_or}
use Rattle.comm_makings.proofs.view.told_on.Given as goal

abbrev pub invariant-loop-at : goal.invariant-loop-at
invariant-loop-at l = record {
  told : (handle : ℕ) (told : Option ℕ) → slice_get l.told.items handle ≡ Some told
      → told_or told (first_told_on handle (drop l.at l.calls) (drop l.at l.meant)) ≡ first_told_on handle l.calls l.meant;
  all : length l.told.items ≡ l.count;
}
