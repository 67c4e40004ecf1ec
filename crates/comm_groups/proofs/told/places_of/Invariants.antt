use Rattle.std.proofs.Common.{◌≡◌, ◌<◌, ℕ, length, get_or}
use Rattle.comm_groups.proofs.told.places_of.Given as goal

abbrev pub invariant-loop-i : goal.invariant-loop-i
invariant-loop-i l = record {
  same : length l.order.items ≡ length l.told;
  placed : (k : ℕ) → k < l.i → get_or l.order.items (get_or l.told k 0) 0 ≡ k;
}
