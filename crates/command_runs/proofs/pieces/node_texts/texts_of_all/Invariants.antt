use Rattle.std.proofs.Common.{◌≡◌, take}
use Rattle.std.specs.List.{All}
use Rattle.trace_cluster.specs.declared.side.Side.{Side}
use Rattle.command_runs.specs.Shares.{told_to}
use Rattle.command_runs.specs.NodeTexts.{AreShares, WasRead, known_in}
use Rattle.command_runs.proofs.pieces.node_texts.texts_of_all.Given as goal

abbrev pub invariant-loop-piece : goal.invariant-loop-piece
invariant-loop-piece g l = record {
  shares : AreShares (g.O.Opener.file l.files) (take l.piece-index l.pieces) l.texts;
  known : (node : Side) → known_in l.texts node ≡ told_to l.fn.packed node;
  read : All (WasRead (g.O.Opener.file l.files)) (take l.piece-index l.pieces);
}
