use Rattle.std.proofs.Common.{◌∙◌, ◌||◌, ap₂}
use Rattle.std.proofs.lemmas.Result.{IfOk-weaker}
use Rattle.clap.specs.Words.{with_rule}
use Rattle.command_line.proofs.pieces_command.Goals as goal

pub returns : goal.returns
returns c = record {
  shape = IfOk-weaker c.arg.result _ _ (λ r h.
      h.shape c.threads_argument.ensures.local ∙ ap₂ with_rule c.in_ok-pair.ensures.shape c.threads_argument.ensures.rule) c.arg.ensures;
  local = IfOk-weaker c.arg.result _ _ (λ r h.
      h.globals ∙ ap₂ (λ a b. a || b) c.in_ok-pair.ensures.local c.threads_argument.ensures.local) c.arg.ensures;
}
