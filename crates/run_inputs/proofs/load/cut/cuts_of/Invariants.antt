use Rattle.std.proofs.Common.{take}
use Rattle.command_line.specs.Program.{texts_of}
use Rattle.run_inputs.specs.Seen.{AreCutsOf}
use Rattle.run_inputs.proofs.load.cut.cuts_of.Given as goal

abbrev pub invariant-loop-name : goal.invariant-loop-name
invariant-loop-name g l = AreCutsOf (g.O.Opener.file l.files) (texts_of (take l.name-index l.names)) l.cuts.items
