use Rattle.std.proofs.Common.{◌≡◌, ◌≤◌, length, take}
use Rattle.std.specs.List.{AllWithin}
use Rattle.command_runs.specs.Ranks.{TellRanks}
use Rattle.command_runs.proofs.pieces.by_rank.told_of.Given as goal

abbrev pub invariant-loop-rank : goal.invariant-loop-rank
invariant-loop-rank g l = record {
  bound : l.start ≤ length l.pieces;
  tell : TellRanks (g.O.Opener.file l.run.files.now) l.run.layout.now (take l.start l.pieces) l.rank l.told;
  rest : AllWithin (λ p. l.rank ≤ p.rank) l.pieces l.start (length l.pieces);
  run : l.ranks.run.now ≡ l.run;
  pieces : l.ranks.pieces.now ≡ l.pieces;
}
