use Rattle.std.proofs.Common.{◌≡◌, ℕ, true, replicate}
use Rattle.trace_stuck.proofs.heart.everyone.Given as goal

abbrev pub invariant-loop : goal.invariant-loop
invariant-loop l = l.starts.items ≡ replicate l.counter true
