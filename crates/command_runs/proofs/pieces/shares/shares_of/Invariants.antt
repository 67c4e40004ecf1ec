use Rattle.std.proofs.Common.{take}
use Rattle.trace_know.specs.View.{View}
use Rattle.command_runs.specs.Packed.{TellPacked}
use Rattle.command_runs.specs.Shares.{TellShares, so_far}
use Rattle.command_runs.proofs.PackedShares.{AreOfRanks}
use Rattle.command_runs.proofs.pieces.shares.shares_of.Given as goal

abbrev pub invariant-loop-piece : goal.invariant-loop-piece
invariant-loop-piece g l = record {
  shares : TellShares (g.O.Opener.file l.run.files.now) l.run.layout.now.ranks (take l.piece-index l.packed) (so_far l.told);
  together : (view : View) × TellPacked (g.O.Opener.file l.run.files.now) l.run.layout.now.ranks (take l.piece-index l.packed) view;
  of : AreOfRanks l.run.layout.now.ranks (so_far l.told);
}
