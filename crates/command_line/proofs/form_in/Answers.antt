use Rattle.std.proofs.Common.{rules, ◌≡◌, ◌∙◌, Some, codes}
use Rattle.clap.specs.Words.{found_of, rows_of}
use Rattle.clap.proofs.WalkLemmas.{first_value-rows}
use Rattle.command_line.specs.Program.{verb_named}
use Rattle.command_line.proofs.Rows.{formed}
use Rattle.command_line.proofs.form_in.Goals as goal

pub returns : goal.returns
returns c =
    let found = found_of c.args.inner.now in
    let verb : verb_named c.args.name.now ≡ Some c.in_ok-verb.verb = search rules in
    c.in_form.ensures ∙ formed c.args.name.now (rows_of found) c.in_ok-verb.verb _ _ _ verb
    (c.get_str-json.ensures ∙ first_value-rows found (codes "json")) (c.get_str-all.ensures ∙ first_value-rows found (codes "all")) (c.get_str-rank.ensures ∙ first_value-rows found (codes "rank"))
