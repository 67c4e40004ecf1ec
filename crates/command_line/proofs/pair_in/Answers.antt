use Rattle.std.proofs.Common.{◌∙◌, codes}
use Rattle.clap.specs.Words.{found_of}
use Rattle.clap.proofs.WalkLemmas.{first_value-rows}
use Rattle.command_line.proofs.Rows.{pair_by}
use Rattle.command_line.proofs.pair_in.Goals as goal

pub returns : goal.returns
returns c =
    let found = found_of c.args.inner.now in
    c.pair_of.ensures ∙ pair_by c.args.verb _ _ _ _ _ _ c.verbosity_in.ensures (c.get_str-layout.ensures ∙ first_value-rows found (codes "LAYOUT"))
    (c.get_str-manifest.ensures ∙ first_value-rows found (codes "MANIFEST"))
