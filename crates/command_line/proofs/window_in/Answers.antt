use Rattle.std.proofs.Common.{◌∙◌, codes}
use Rattle.clap.specs.Words.{found_of}
use Rattle.clap.proofs.WalkLemmas.{first_value-rows}
use Rattle.command_line.proofs.Rows.{window_from}
use Rattle.command_line.proofs.window_in.Goals as goal

pub returns : goal.returns
returns c =
    let found = found_of c.args.inner.now in
    c.window_by.ensures ∙ window_from _ _ _ _ _ _ (c.get_str-from.ensures ∙ first_value-rows found (codes "from"))
    (c.get_str-to.ensures ∙ first_value-rows found (codes "to")) (c.get_str-ranks.ensures ∙ first_value-rows found (codes "ranks"))
