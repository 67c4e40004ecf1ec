use Rattle.std.proofs.Common.{◌≡◌, ◌++◌}
use Rattle.std.specs.List.{filter_map, range_with_len}
use Rattle.comm_makings.specs.Uses.{call_use_at}
use Rattle.comm_makings.proofs.uses.add_calls.Given as goal

abbrev pub invariant-loop-at : goal.invariant-loop-at
invariant-loop-at l = l.held.items ≡ l.initial.held.items ++ filter_map (call_use_at l.calls l.meant) (range_with_len 0 l.at)
