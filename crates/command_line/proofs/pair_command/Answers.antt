use Rattle.std.proofs.Common.{rules, ◌≡◌, ◌∙◌, ◌||◌, ap, ap₂, false}
use Rattle.std.proofs.lemmas.Result.{IfOk-weaker}
use Rattle.clap.specs.Words.{app_of, new_app, with_rule}
use Rattle.clap.specs.Simple.{app_of_fields}
use Rattle.clap.specs.declared.builder.command.Command.TheViews.{out-Command}
use Rattle.command_line.proofs.pair_command.Goals as goal

-- argument by argument
pub returns : goal.returns
returns c =
    let bare : app_of c.after_help-bare.result ≡ new_app c.args.name.now = ap app_of_fields c.after_help-bare.ensures ∙ ap app_of_fields c.about.ensures ∙ c.new.ensures.app in
    let bare_local : (out-Command c.after_help-bare.result).has_globals ≡ false = search rules in
    let one = c.in_ok-one.ensures.shape c.file_argument-layout.ensures.local ∙ ap₂ with_rule bare c.file_argument-layout.ensures.rule in
    let one_local = c.in_ok-one.ensures.globals ∙ ap₂ (λ a b. a || b) bare_local c.file_argument-layout.ensures.local in
    let both = c.in_ok-both.ensures.shape c.file_argument-manifest.ensures.local ∙ ap₂ with_rule one c.file_argument-manifest.ensures.rule in
    let both_local = c.in_ok-both.ensures.globals ∙ ap₂ (λ a b. a || b) one_local c.file_argument-manifest.ensures.local in
    record {
      shape = IfOk-weaker c.arg-3.result _ _ (λ r h.
          h.shape c.quiet_argument.ensures.local ∙ ap₂ with_rule both c.quiet_argument.ensures.rule) c.arg-3.ensures;
      local = IfOk-weaker c.arg-3.result _ _ (λ r h.
          h.globals ∙ ap₂ (λ a b. a || b) both_local c.quiet_argument.ensures.local) c.arg-3.ensures;
    }
