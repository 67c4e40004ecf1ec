use Rattle.std.proofs.Common.{◌∙◌, ap₂, codes}
use Rattle.clap.specs.Words.{found_of}
use Rattle.clap.proofs.WalkLemmas.{first_value-rows}
use Rattle.command_line.specs.Windows.{calls_asked}
use Rattle.command_line.proofs.calls_named.Goals as goal

pub returns : goal.returns
returns c =
    let found = found_of c.args.inner.now in
    c.calls_asked.ensures ∙ ap₂ calls_asked (c.get_str-csv.ensures ∙ first_value-rows found (codes "csv"))
    (c.get_str-json.ensures ∙ first_value-rows found (codes "json"))
