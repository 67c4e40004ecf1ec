use Rattle.std.proofs.Common.{◌≡◌, take}
use Rattle.command_line.specs.Program.{texts_of}
use Rattle.run_inputs.specs.Seen.{cut_names}
use Rattle.run_inputs.proofs.load.seen.cut_names.Given as goal

abbrev pub invariant-loop-piece : goal.invariant-loop-piece
invariant-loop-piece l = texts_of l.names.items ≡ cut_names (take l.piece-index l.pieces)
