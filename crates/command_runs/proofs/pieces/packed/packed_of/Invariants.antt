use Rattle.std.proofs.Common.{take}
use Rattle.trace_wire.specs.Packed.{IsOfRanks}
use Rattle.command_runs.specs.Packed.{TellPacked}
use Rattle.command_runs.proofs.pieces.packed.packed_of.Given as goal

abbrev pub invariant-loop-piece : goal.invariant-loop-piece
invariant-loop-piece g l = record {
  known : TellPacked (g.O.Opener.file l.run.files.now) l.run.layout.now.ranks (take l.piece-index l.packed) l.all;
  of : IsOfRanks l.run.layout.now.ranks l.all;
}
