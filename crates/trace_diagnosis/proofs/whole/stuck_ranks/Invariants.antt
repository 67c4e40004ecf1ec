use Rattle.std.proofs.Common.{◌≡◌, map, take}
use Rattle.trace_node.specs.Stopped.{stopped}
use Rattle.trace_diagnosis.proofs.whole.stuck_ranks.Given as goal

abbrev pub invariant-loop-stuck : goal.invariant-loop-stuck
invariant-loop-stuck l = l.ranks.items ≡ map (λ s. s.rank) (map stopped (take l.stuck-index l.stuck-items))
