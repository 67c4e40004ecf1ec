use Rattle.std.proofs.Common.{◌≡◌, ◌∙◌, Option, Some, ap, option_and_then, sym}
use Rattle.std.proofs.lemmas.Result.{IfOk-weaker}
use Rattle.clap.specs.Words.{found_of, rows_of}
use Rattle.command_line.specs.Program.{files_in}
use Rattle.command_line.specs.Windows.{window_in}
use Rattle.command_line.specs.declared.Verb.TheVariants.{Timeline}
use Rattle.command_line.specs.declared.Window.{Window}
use Rattle.command_line.proofs.timeline_in.Goals as goal

pub returns-in-Some : goal.returns-in-Some
returns-in-Some c =
    let rows = rows_of (found_of c.args.inner.now) in
    let window : window_in rows ≡ Some c.in-Some.window = cc in
    IfOk-weaker c.files_in.result _ _ (λ asked h. h ∙ sym (ap (λ (o : Option Window). option_and_then (λ w. files_in (Timeline w) rows) o) window)) c.files_in.ensures
