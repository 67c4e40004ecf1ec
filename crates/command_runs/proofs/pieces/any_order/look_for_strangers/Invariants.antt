use Rattle.std.proofs.Common.{take}
use Rattle.std.specs.List.{All}
use Rattle.command_runs.specs.Traces.{IsInside}
use Rattle.command_runs.proofs.pieces.any_order.look_for_strangers.Given as goal

abbrev pub invariant-loop-piece : goal.invariant-loop-piece
invariant-loop-piece g l = record {
  inside : All (IsInside (g.O.Opener.file l.run.files.now) l.run.layout.now.ranks) (take l.piece-index l.pieces);
}
