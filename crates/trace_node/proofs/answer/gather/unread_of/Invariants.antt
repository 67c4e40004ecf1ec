use Rattle.std.proofs.Common.{◌≡◌, map}
use Rattle.std.specs.List.{range_with_len}
use Rattle.trace_know.specs.Prefix.{is_unread}
use Rattle.trace_node.proofs.answer.gather.unread_of.Given as goal

abbrev pub invariant-loop-rank : goal.invariant-loop-rank
invariant-loop-rank l = l.unread.items ≡ map (is_unread l.know) (range_with_len 0 l.rank)
