use Rattle.std.proofs.Common.{◌≡◌, ◌-◌, ◌≤◌, length}
use Rattle.std.specs.List.{AllWithin}
use Rattle.command_runs.proofs.pieces.by_rank.end_of_rank.Given as goal

abbrev pub invariant-loop-end : goal.invariant-loop-end
invariant-loop-end l = record {
  from : l.start ≤ l.end;
  bound : l.end ≤ length l.pieces;
  own : AllWithin (λ p. p.rank ≡ l.rank) l.pieces l.start l.end;
}

abbrev pub decreases-loop-end : goal.decreases-loop-end
decreases-loop-end l = length l.pieces - l.end
