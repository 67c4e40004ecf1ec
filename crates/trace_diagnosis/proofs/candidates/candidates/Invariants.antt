use Rattle.std.proofs.Common.{◌≡◌, map}
use Rattle.std.specs.List.{flat_map, range_with_len}
use Rattle.trace_diagnosis.specs.Askers.{asker}
use Rattle.trace_diagnosis.specs.Starving.{candidates_at}
use Rattle.trace_diagnosis.proofs.candidates.candidates.Given as goal

abbrev pub invariant-loop-rank : goal.invariant-loop-rank
invariant-loop-rank l = l.found.items ≡ flat_map (candidates_at l.layout l.ops l.pairs (map asker l.pollers)) (range_with_len 0 l.rank)
