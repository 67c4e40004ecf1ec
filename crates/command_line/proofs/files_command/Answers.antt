use Rattle.std.proofs.Common.{rules, ◌≡◌, ◌∙◌, ◌||◌, ap, ap₂, false}
use Rattle.std.proofs.lemmas.Result.{IfOk-weaker}
use Rattle.clap.specs.Words.{app_of, new_app, with_rule}
use Rattle.clap.specs.Simple.{app_of_fields}
use Rattle.clap.specs.declared.builder.command.Command.TheViews.{out-Command}
use Rattle.command_line.proofs.files_command.Goals as goal

-- argument by argument
pub returns : goal.returns
returns c =
    let bare : app_of c.after_help-bare.result ≡ new_app c.args.name.now = ap app_of_fields c.after_help-bare.ensures ∙ ap app_of_fields c.about.ensures ∙ c.new.ensures.app in
    let bare_local : (out-Command c.after_help-bare.result).has_globals ≡ false = search rules in
    let named = c.in_ok-named.ensures.shape c.several_argument-files.ensures.local ∙ ap₂ with_rule bare c.several_argument-files.ensures.rule in
    let named_local = c.in_ok-named.ensures.globals ∙ ap₂ (λ a b. a || b) bare_local c.several_argument-files.ensures.local in
    let quiet = c.in_ok-quiet.ensures.shape c.quiet_argument.ensures.local ∙ ap₂ with_rule named c.quiet_argument.ensures.rule in
    let quiet_local = c.in_ok-quiet.ensures.globals ∙ ap₂ (λ a b. a || b) named_local c.quiet_argument.ensures.local in
    let verbose = c.in_ok-verbose.ensures.shape c.verbose_argument.ensures.local ∙ ap₂ with_rule quiet c.verbose_argument.ensures.rule in
    let verbose_local = c.in_ok-verbose.ensures.globals ∙ ap₂ (λ a b. a || b) quiet_local c.verbose_argument.ensures.local in
    record {
      shape = IfOk-weaker c.arg-4.result _ _ (λ r h.
          h.shape c.threads_argument.ensures.local ∙ ap₂ with_rule verbose c.threads_argument.ensures.rule) c.arg-4.ensures;
      local = IfOk-weaker c.arg-4.result _ _ (λ r h.
          h.globals ∙ ap₂ (λ a b. a || b) verbose_local c.threads_argument.ensures.local) c.arg-4.ensures;
    }
