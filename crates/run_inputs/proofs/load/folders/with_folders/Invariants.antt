use Rattle.std.proofs.Common.{◌++◌, ℕ, List, drop, map, string_bytes}
use Rattle.command_line.specs.Program.{texts_of}
use Rattle.run_inputs.specs.Folders.{StandForAll}
use Rattle.run_inputs.proofs.load.folders.with_folders.Given as goal

abbrev pub invariant-loop-word : goal.invariant-loop-word
invariant-loop-word g l = (more : List (List ℕ)) → StandForAll (g.O.Opener.file l.files) (texts_of (drop l.word-index l.words)) more
    → StandForAll (g.O.Opener.file l.files) (texts_of l.words) (map string_bytes l.names.items ++ more)
