use Rattle.std.proofs.Common.{◌≡◌, ◌<◌, ℕ, true}
use Rattle.trace_check.specs.Right.{is_listed}
use Rattle.trace_check.proofs.verdict.are_all_listed.Given as goal

abbrev pub invariant-loop-r : goal.invariant-loop-r
invariant-loop-r l = (r : ℕ) → r < l.r → is_listed l.states l.stuck l.release r ≡ true
