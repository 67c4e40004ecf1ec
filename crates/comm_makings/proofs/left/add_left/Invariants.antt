use Rattle.std.proofs.Common.{◌≡◌, ◌++◌}
use Rattle.std.specs.List.{filter_map, range_with_len}
use Rattle.comm_makings.specs.Left.{left_at}
use Rattle.comm_makings.proofs.left.add_left.Given as goal

abbrev pub invariant-loop-at : goal.invariant-loop-at
invariant-loop-at l = l.all.items ≡ l.initial.all.items ++ filter_map (left_at l.ranks l.views l.uses l.standings l.rank) (range_with_len 0 l.at)
