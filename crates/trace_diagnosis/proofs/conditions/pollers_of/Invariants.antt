use Rattle.std.proofs.Common.{◌≡◌, ◌<◌, All, length, map}
use Rattle.std.specs.List.{flat_map, range_with_len}
use Rattle.trace_diagnosis.specs.Askers.{poller_plain}
use Rattle.trace_diagnosis.specs.Tails.{polling_at}
use Rattle.trace_diagnosis.proofs.conditions.pollers_of.Given as goal

abbrev pub invariant-loop-rank : goal.invariant-loop-rank
invariant-loop-rank l = record {
  there : All (λ p. p.rank < length l.ops) l.pollers.items;
  polls : map poller_plain l.pollers.items ≡ flat_map (polling_at l.know l.ops l.cut) (range_with_len 0 l.rank);
}
