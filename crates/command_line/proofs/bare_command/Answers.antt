use Rattle.std.proofs.Common.{◌≡◌, ◌∙◌, ap, codes, true}
use Rattle.clap.specs.Words.{app_of, new_app}
use Rattle.clap.specs.Simple.{app_of_fields, on_top}
use Rattle.command_line.proofs.bare_command.Goals as goal

-- texts for the user leave the command's meaning as it is
pub returns : goal.returns
returns c =
    let about : app_of c.about.result ≡ new_app (codes "mpimatch") = ap app_of_fields c.about.ensures ∙ c.new.ensures.app in
    let version : app_of c.version.result ≡ on_top (λ s. record s { has_version = true }) (new_app (codes "mpimatch")) =
    ap app_of_fields c.version.ensures ∙ ap (on_top (λ s. record s { has_version = true })) about in
    let after : app_of c.after_help.result ≡ on_top (λ s. record s { has_version = true }) (new_app (codes "mpimatch")) =
    ap app_of_fields c.after_help.ensures ∙ version in
    ap app_of_fields c.subcommand_required.ensures ∙ ap (on_top (λ s. record s { subcommand_required = true })) after
