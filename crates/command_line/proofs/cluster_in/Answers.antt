use Rattle.std.proofs.Common.{◌∙◌, ap₂, codes}
use Rattle.clap.specs.Words.{found_of}
use Rattle.clap.proofs.WalkLemmas.{first_value-rows}
use Rattle.command_line.specs.Program.{cluster_of}
use Rattle.command_line.proofs.cluster_in.Goals as goal

pub returns : goal.returns
returns c =
    let found = found_of c.args.inner.now in
    c.cluster_of.ensures ∙ ap₂ cluster_of (c.get_str-layout.ensures ∙ first_value-rows found (codes "LAYOUT"))
    (c.get_str-manifest.ensures ∙ first_value-rows found (codes "MANIFEST"))
