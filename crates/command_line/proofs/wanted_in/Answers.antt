use Rattle.std.proofs.Common.{◌∙◌, Option, ap, codes, option_and_then}
use Rattle.clap.specs.Words.{Text, found_of}
use Rattle.clap.proofs.WalkLemmas.{first_value-rows}
use Rattle.command_line.specs.Program.{sends_named}
use Rattle.command_line.proofs.Rows.{wanted_from}
use Rattle.command_line.proofs.wanted_in.Goals as goal

pub returns : goal.returns
returns c =
    let found = found_of c.args.inner.now in
    let word = c.get_str-word.ensures ∙ first_value-rows found (codes "sends") in
    c.wanted_of.ensures ∙ wanted_from _ _ _ _ _ _ _ _ _ _ (c.named_sends-sends.ensures ∙ ap (λ (o : Option Text). option_and_then sends_named o) word)
    (c.get_str-layout.ensures ∙ first_value-rows found (codes "layout"))
    (c.get_str-manifest.ensures ∙ first_value-rows found (codes "manifest")) (c.get_str-force.ensures ∙ first_value-rows found (codes "force"))
    (c.get_str-json.ensures ∙ first_value-rows found (codes "json"))
