use Rattle.std.proofs.Common.{◌≡◌}
use Rattle.trace_stuck.specs.Verdicts.{left_below}
use Rattle.trace_stuck.proofs.verdict.ranks_left.Given as goal

abbrev pub invariant-loop-r : goal.invariant-loop-r
invariant-loop-r l = l.ranks.items ≡ left_below l.states l.release l.r
