use Rattle.std.proofs.Common.{◌≡◌, ◌≤◌, ℕ, drop, length, nat_eq, reverse}
use Rattle.indexmap.specs.IndexMap.{get}
use Rattle.comm_makings.specs.Objects.{end_in, object_handles}
use Rattle.comm_makings.proofs.object_view.handles_back.Given as goal

abbrev pub decreases-loop-at : goal.decreases-loop-at
decreases-loop-at l = l.at

abbrev pub invariant-loop-at : goal.invariant-loop-at
invariant-loop-at l = record {
  within : l.at ≤ length l.calls;
  handles : l.handles.items ≡ reverse (object_handles l.object (drop l.at l.calls));
  ends : (m : ℕ) → get nat_eq l.ends m ≡ end_in l.object m (drop l.at l.calls);
}
