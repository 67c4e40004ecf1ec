use Rattle.std.proofs.Common.{◌≡◌}
use Rattle.std.specs.List.{filter_map, range_with_len}
use Rattle.comm_makings.specs.Written.{named_at}
use Rattle.comm_makings.proofs.written.all_named.Given as goal

abbrev pub invariant-loop-place : goal.invariant-loop-place
invariant-loop-place l = l.named.items ≡ filter_map (named_at l.choice l.uses l.made) (range_with_len 0 l.place)
