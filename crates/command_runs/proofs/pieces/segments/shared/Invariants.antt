use Rattle.std.proofs.Common.{◌≡◌}
use Rattle.command_runs.proofs.pieces.segments.shared.Given as goal

abbrev pub invariant-loop-segment : goal.invariant-loop-segment
invariant-loop-segment l = l.list.items ≡ l.yielded
