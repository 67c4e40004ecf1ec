-- What standard error shows of the texts that a verb runs over.
use Rattle.std.specs.Prelude.{ℕ, List, [], length}
use Rattle.command_line.specs.declared.Verbosity.{Verbosity}
use Rattle.command_line.specs.declared.Verbosity.TheVariants.{Quiet, Brief, Verbose}
use Rattle.text_layouts.specs.Summary.{summary_text}
use Rattle.run_inputs.specs.declared.load.prepared.Prepared.{Prepared}

-- what was found in the texts, on one line
abbrev pub summary_of : Prepared → List ℕ
summary_of p = summary_text (length p.made.input.manifest.pieces) p.calls p.missing.items p.made.derived.comms.items (length p.made.derived.left_out.items)

-- what is told of the texts: nothing, or what was found on one line, or all of it
abbrev pub told_of : Verbosity → Prepared → List ℕ
told_of Quiet p = []
told_of Brief p = summary_of p
told_of Verbose p = p.notes.items
