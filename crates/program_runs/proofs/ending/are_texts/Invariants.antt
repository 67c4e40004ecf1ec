use Rattle.std.proofs.Common.{drop}
use Rattle.command_line.specs.Program.{texts_of}
use Rattle.program_runs.specs.Endings.{BeginsWithText}
use Rattle.program_runs.proofs.ending.are_texts.Given as goal

abbrev pub invariant-loop-name : goal.invariant-loop-name
invariant-loop-name g l = record {
  behind : BeginsWithText (g.O.Opener.file l.files) (texts_of (drop l.name-index l.names)) → BeginsWithText (g.O.Opener.file l.files) (texts_of l.names);
}
