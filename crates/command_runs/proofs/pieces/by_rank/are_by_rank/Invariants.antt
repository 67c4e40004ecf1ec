use Rattle.std.proofs.Common.{◌-◌, ◌≤◌, length, take}
use Rattle.std.specs.List.Sorted.{IsNonDecreasingBy}
use Rattle.command_runs.proofs.pieces.by_rank.are_by_rank.Given as goal

abbrev pub invariant-loop-i : goal.invariant-loop-i
invariant-loop-i l = record {
  some : 1 ≤ l.i;
  rise : IsNonDecreasingBy (λ p. p.rank) (take l.i l.pieces);
}

abbrev pub decreases-loop-i : goal.decreases-loop-i
decreases-loop-i l = length l.pieces - l.i
