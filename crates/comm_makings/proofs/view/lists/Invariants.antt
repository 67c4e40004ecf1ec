use Rattle.std.proofs.Common.{◌≡◌, ℕ, List, [], Some, length, option_map}
use Rattle.std.specs.List.{slice_get}
use Rattle.comm_makings.proofs.view.lists.Given as goal

abbrev pub invariant-loop : goal.invariant-loop
invariant-loop l = record {
  empty : (handle : ℕ) (list : List ℕ) → option_map (λ v. v.items) (slice_get l.lists.items handle) ≡ Some list → list ≡ [];
  all : length l.lists.items ≡ l.counter;
}
