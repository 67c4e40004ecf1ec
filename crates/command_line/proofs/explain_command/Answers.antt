use Rattle.std.proofs.Common.{◌∙◌, ◌||◌, ap₂}
use Rattle.std.proofs.lemmas.Result.{IfOk-weaker}
use Rattle.clap.specs.Words.{with_rule}
use Rattle.command_line.proofs.explain_command.Goals as goal

pub returns : goal.returns
returns c =
    let json_shape = c.in_ok-json.ensures.shape c.json_argument.ensures.local ∙ ap₂ with_rule c.in_ok-bare.ensures.shape c.json_argument.ensures.rule in
    let json_local = c.in_ok-json.ensures.globals ∙ ap₂ (λ a b. a || b) c.in_ok-bare.ensures.local c.json_argument.ensures.local in
    let all_shape = c.in_ok-all.ensures.shape c.all_argument.ensures.local ∙ ap₂ with_rule json_shape c.all_argument.ensures.rule in
    let all_local = c.in_ok-all.ensures.globals ∙ ap₂ (λ a b. a || b) json_local c.all_argument.ensures.local in
    record {
      shape = IfOk-weaker c.arg-3.result _ _ (λ r h.
          h.shape c.rank_argument.ensures.local ∙ ap₂ with_rule all_shape c.rank_argument.ensures.rule) c.arg-3.ensures;
      local = IfOk-weaker c.arg-3.result _ _ (λ r h.
          h.globals ∙ ap₂ (λ a b. a || b) all_local c.rank_argument.ensures.local) c.arg-3.ensures;
    }
