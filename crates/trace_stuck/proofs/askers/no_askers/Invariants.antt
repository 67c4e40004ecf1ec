use Rattle.std.proofs.Common.{◌≡◌, ℕ, [], vec_len}
use Rattle.trace_stuck.specs.Named.{at_rank}
use Rattle.trace_stuck.proofs.askers.no_askers.Given as goal

abbrev pub invariant-loop : goal.invariant-loop
invariant-loop l = record {
  len : vec_len l.askers ≡ l.counter;
  none : (s : ℕ) → at_rank l.askers.items s ≡ [];
}
