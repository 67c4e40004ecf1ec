use Rattle.std.proofs.Common.{◌≡◌, map}
use Rattle.std.specs.List.{range_with_len}
use Rattle.trace_know.specs.Prefix.{prefix_of}
use Rattle.trace_node.proofs.answer.gather.prefixes_of.Given as goal

abbrev pub invariant-loop-rank : goal.invariant-loop-rank
invariant-loop-rank l = l.prefixes.items ≡ map (prefix_of l.know) (range_with_len 0 l.rank)
