use Rattle.std.proofs.Common.{◌∙◌, ap}
use Rattle.std.proofs.lemmas.Result.{IfOk-weaker}
use Rattle.clap.specs.Words.{App, app_of, with_subcommand}
use Rattle.command_line.proofs.with_pieces.Goals as goal

pub returns : goal.returns
returns c =
    IfOk-weaker c.subcommand.result _ _ (λ r h.
    h.shape c.in_ok-verb.ensures.local ∙ ap (with_subcommand (app_of c.args.command)) (ap (λ (a : App). a.top) c.in_ok-verb.ensures.shape)) c.subcommand.ensures
