use Rattle.std.proofs.Common.{ℕ, ◌≡◌, ◌-◌, suc, length}
use Rattle.trace_pair.specs.Slots.{slots_at}
use Rattle.trace_pair.proofs.slots.reach.Given as goal

abbrev pub invariant-loop-alloc : goal.invariant-loop-alloc
invariant-loop-alloc g l = (r : ℕ) → slots_at l.rows.items r ≡ slots_at l.fn.rows.items r

abbrev pub decreases-loop-alloc : goal.decreases-loop-alloc
decreases-loop-alloc g l = suc l.rank - length l.rows.items
