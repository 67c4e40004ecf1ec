use Rattle.std.proofs.Common.{◌≡◌, false, replicate}
use Rattle.trace_stuck.proofs.verdict.flags_of.Given as goal

abbrev pub invariant-loop : goal.invariant-loop
invariant-loop l = l.flags.items ≡ replicate l.counter false
