use Rattle.std.proofs.Common.{◌∙◌, ◌||◌, ap₂}
use Rattle.std.proofs.lemmas.Result.{IfOk-weaker}
use Rattle.clap.specs.Words.{with_rule}
use Rattle.command_line.proofs.calls_command.Goals as goal

pub returns : goal.returns
returns c =
    let csv_shape = c.in_ok-csv.ensures.shape c.csv_argument.ensures.local ∙ ap₂ with_rule c.in_ok-bare.ensures.shape c.csv_argument.ensures.rule in
    let csv_local = c.in_ok-csv.ensures.globals ∙ ap₂ (λ a b. a || b) c.in_ok-bare.ensures.local c.csv_argument.ensures.local in
    record {
      shape = IfOk-weaker c.arg-2.result _ _ (λ r h.
          h.shape c.json_argument.ensures.local ∙ ap₂ with_rule csv_shape c.json_argument.ensures.rule) c.arg-2.ensures;
      local = IfOk-weaker c.arg-2.result _ _ (λ r h.
          h.globals ∙ ap₂ (λ a b. a || b) csv_local c.json_argument.ensures.local) c.arg-2.ensures;
    }
