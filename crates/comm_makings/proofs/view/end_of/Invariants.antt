use Rattle.std.proofs.Common.{◌≡◌, ◌<◌, ℕ, false}
use Rattle.comm_makings.specs.Views.{is_orphan_at}
use Rattle.comm_makings.proofs.view.end_of.Given as goal

abbrev pub invariant-loop-at : goal.invariant-loop-at
invariant-loop-at l = (k : ℕ) → k < l.at → is_orphan_at l.calls l.meant k ≡ false
