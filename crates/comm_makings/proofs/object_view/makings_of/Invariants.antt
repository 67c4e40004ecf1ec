use Rattle.std.proofs.Common.{◌≡◌, ◌++◌, ℕ, List, Some, drop, length, option_map}
use Rattle.std.specs.List.{slice_get}
use Rattle.comm_makings.specs.Objects.{object_makings_on}
use Rattle.comm_makings.proofs.object_view.makings_of.Given as goal

abbrev pub invariant-loop-at : goal.invariant-loop-at
invariant-loop-at l = record {
  listed : (handle : ℕ) (list : List ℕ) → option_map (λ l. l.items) (slice_get l.lists.items handle) ≡ Some list
      → list ++ object_makings_on l.object handle l.at (drop l.at l.calls) (drop l.at l.meant) ≡ object_makings_on l.object handle 0 l.calls l.meant;
  all : length l.lists.items ≡ l.count;
}
