use Rattle.std.proofs.Common.{◌∙◌, ap₂, codes}
use Rattle.clap.specs.Words.{found_of}
use Rattle.clap.proofs.WalkLemmas.{first_value-rows}
use Rattle.command_line.specs.Program.{verbosity_of}
use Rattle.command_line.proofs.verbosity_in.Goals as goal

pub returns : goal.returns
returns c =
    let found = found_of c.args.inner.now in
    c.verbosity_of.ensures ∙ ap₂ verbosity_of (c.get_str-quiet.ensures ∙ first_value-rows found (codes "quiet"))
    (c.get_str-verbose.ensures ∙ first_value-rows found (codes "verbose"))
