use Rattle.std.proofs.Common.{◌∙◌, ◌||◌, ap₂}
use Rattle.std.proofs.lemmas.Result.{IfOk-weaker}
use Rattle.clap.specs.Words.{with_rule}
use Rattle.command_line.proofs.init_command.Goals as goal

-- argument by argument
pub returns : goal.returns
returns c =
    let texts = c.in_ok-texts.ensures.shape c.several_argument-named.ensures.local ∙ ap₂ with_rule c.bare_init.ensures.shape c.several_argument-named.ensures.rule in
    let sends = c.in_ok-sends.ensures.shape c.sends_argument.ensures.local ∙ ap₂ with_rule texts c.sends_argument.ensures.rule in
    let layout = c.in_ok-layout.ensures.shape c.layout_argument.ensures.local ∙ ap₂ with_rule sends c.layout_argument.ensures.rule in
    let manifest = c.in_ok-manifest.ensures.shape c.manifest_argument.ensures.local ∙ ap₂ with_rule layout c.manifest_argument.ensures.rule in
    let texts_local = c.in_ok-texts.ensures.globals ∙ ap₂ (λ a b. a || b) c.bare_init.ensures.local c.several_argument-named.ensures.local in
    let sends_local = c.in_ok-sends.ensures.globals ∙ ap₂ (λ a b. a || b) texts_local c.sends_argument.ensures.local in
    let layout_local = c.in_ok-layout.ensures.globals ∙ ap₂ (λ a b. a || b) sends_local c.layout_argument.ensures.local in
    let force = c.in_ok-force.ensures.shape c.force_argument.ensures.local ∙ ap₂ with_rule manifest c.force_argument.ensures.rule in
    let manifest_local = c.in_ok-manifest.ensures.globals ∙ ap₂ (λ a b. a || b) layout_local c.manifest_argument.ensures.local in
    let force_local = c.in_ok-force.ensures.globals ∙ ap₂ (λ a b. a || b) manifest_local c.force_argument.ensures.local in
    let quiet = c.in_ok-quiet.ensures.shape c.quiet_argument.ensures.local ∙ ap₂ with_rule force c.quiet_argument.ensures.rule in
    let quiet_local = c.in_ok-quiet.ensures.globals ∙ ap₂ (λ a b. a || b) force_local c.quiet_argument.ensures.local in
    let threads = c.in_ok-threads.ensures.shape c.threads_argument.ensures.local ∙ ap₂ with_rule quiet c.threads_argument.ensures.rule in
    let threads_local = c.in_ok-threads.ensures.globals ∙ ap₂ (λ a b. a || b) quiet_local c.threads_argument.ensures.local in
    record {
      shape = IfOk-weaker c.arg-8.result _ _ (λ r h.
          h.shape c.json_argument.ensures.local ∙ ap₂ with_rule threads c.json_argument.ensures.rule) c.arg-8.ensures;
      local = IfOk-weaker c.arg-8.result _ _ (λ r h.
          h.globals ∙ ap₂ (λ a b. a || b) threads_local c.json_argument.ensures.local) c.arg-8.ensures;
    }
