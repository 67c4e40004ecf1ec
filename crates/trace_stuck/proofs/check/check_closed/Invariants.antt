use Rattle.std.proofs.Common.{◌≡◌, ℕ, true, take}
use Rattle.trace_stuck.specs.Release.{among}
use Rattle.trace_stuck.proofs.Checks.{Shut}
use Rattle.trace_stuck.proofs.check.check_closed.Given as goal

abbrev pub invariant-loop-r : goal.invariant-loop-r
invariant-loop-r l = (s : ℕ) → among (take l.r-index l.ranks) s ≡ true → Shut l.states l.conditions l.ranks s
