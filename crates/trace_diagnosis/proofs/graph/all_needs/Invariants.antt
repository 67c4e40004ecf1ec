use Rattle.std.proofs.Common.{◌≡◌, map}
use Rattle.std.specs.Prelude.{vec_len}
use Rattle.std.specs.List.{range_with_len}
use Rattle.trace_diagnosis.specs.Askers.{shapes}
use Rattle.trace_diagnosis.specs.Graph.{needs_at}
use Rattle.trace_diagnosis.proofs.graph.all_needs.Given as goal

abbrev pub invariant-loop-rank : goal.invariant-loop-rank
invariant-loop-rank l = record {
  len : vec_len l.all ≡ l.rank;
  needs : map (λ needs. needs.items) l.all.items ≡ map (needs_at l.able (shapes l.conditions)) (range_with_len 0 l.rank);
}
