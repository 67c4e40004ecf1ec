use Rattle.std.proofs.Common.{◌∙◌, ◌||◌, ap₂}
use Rattle.std.proofs.lemmas.Result.{IfOk-weaker}
use Rattle.clap.specs.Words.{with_rule}
use Rattle.command_line.proofs.timeline_command.Goals as goal

pub returns : goal.returns
returns c =
    let from_shape = c.in_ok-from.ensures.shape c.from_argument.ensures.local ∙ ap₂ with_rule c.in_ok-bare.ensures.shape c.from_argument.ensures.rule in
    let from_local = c.in_ok-from.ensures.globals ∙ ap₂ (λ a b. a || b) c.in_ok-bare.ensures.local c.from_argument.ensures.local in
    let to_shape = c.in_ok-to.ensures.shape c.to_argument.ensures.local ∙ ap₂ with_rule from_shape c.to_argument.ensures.rule in
    let to_local = c.in_ok-to.ensures.globals ∙ ap₂ (λ a b. a || b) from_local c.to_argument.ensures.local in
    record {
      shape = IfOk-weaker c.arg-3.result _ _ (λ r h.
          h.shape c.ranks_argument.ensures.local ∙ ap₂ with_rule to_shape c.ranks_argument.ensures.rule) c.arg-3.ensures;
      local = IfOk-weaker c.arg-3.result _ _ (λ r h.
          h.globals ∙ ap₂ (λ a b. a || b) to_local c.ranks_argument.ensures.local) c.arg-3.ensures;
    }
