use Rattle.std.proofs.Common.{◌≡◌, filter}
use Rattle.std.specs.List.{range_with_len}
use Rattle.trace_stuck.specs.Graph.{is_up}
use Rattle.trace_diagnosis.proofs.roots.ranks_up.Given as goal

abbrev pub invariant-loop-rank : goal.invariant-loop-rank
invariant-loop-rank l = l.found.items ≡ filter (is_up l.flags) (range_with_len 0 l.rank)
