use Rattle.std.proofs.Common.{◌≡◌}
use Rattle.std.specs.List.{flat_map, range_with_len}
use Rattle.comm_makings.specs.Left.{left_in}
use Rattle.comm_makings.proofs.left.left_out.Given as goal

abbrev pub invariant-loop-rank : goal.invariant-loop-rank
invariant-loop-rank l = l.all.items ≡ flat_map (left_in l.ranks l.views l.uses l.standings) (range_with_len 0 l.rank)
