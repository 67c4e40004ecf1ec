use Rattle.std.proofs.Common.{◌≡◌, ◌++◌, ℕ, List, Some, drop, length, option_map}
use Rattle.std.specs.List.{slice_get}
use Rattle.comm_makings.specs.Views.{makings_on}
use Rattle.comm_makings.proofs.view.makings_by.Given as goal

abbrev pub invariant-loop-at : goal.invariant-loop-at
invariant-loop-at l = record {
  listed : (handle : ℕ) (list : List ℕ) → option_map (λ l. l.items) (slice_get l.lists.items handle) ≡ Some list
      → list ++ makings_on l.by_group handle l.at (drop l.at l.calls) (drop l.at l.meant) ≡ makings_on l.by_group handle 0 l.calls l.meant;
  all : length l.lists.items ≡ l.count;
}
