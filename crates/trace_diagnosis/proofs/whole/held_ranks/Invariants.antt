use Rattle.std.proofs.Common.{◌≡◌, ◌≤◌, ℕ, map}
use Rattle.trace_diagnosis.specs.Askers.{shapes}
use Rattle.trace_diagnosis.specs.Conditions.{wait_at}
use Rattle.trace_diagnosis.specs.Waiting.{held_in, held_told}
use Rattle.trace_diagnosis.proofs.whole.held_ranks.Given as goal

abbrev pub invariant-loop-rank : goal.invariant-loop-rank
invariant-loop-rank l = record {
  found : map held_told l.found.items ≡ held_in (shapes l.initial.conditions.items) l.rank;
  rest : (r : ℕ) → l.rank ≤ r → wait_at (shapes l.conditions.items) r ≡ wait_at (shapes l.initial.conditions.items) r;
}
