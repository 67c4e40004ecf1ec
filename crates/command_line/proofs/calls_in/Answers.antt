use Rattle.std.proofs.Common.{◌≡◌, ◌∙◌, Option, Some, ap, option_and_then, sym}
use Rattle.std.proofs.lemmas.Result.{IfOk-weaker}
use Rattle.clap.specs.Words.{found_of, rows_of}
use Rattle.command_line.specs.Program.{calls_named, files_in}
use Rattle.command_line.specs.declared.Verb.{Verb}
use Rattle.command_line.proofs.calls_in.Goals as goal

pub returns-in-Some : goal.returns-in-Some
returns-in-Some c =
    let rows = rows_of (found_of c.args.inner.now) in
    let verb : calls_named rows ≡ Some c.in-Some.verb = cc in
    IfOk-weaker c.files_in.result _ _ (λ asked h. h ∙ sym (ap (λ (o : Option Verb). option_and_then (λ v. files_in v rows) o) verb)) c.files_in.ensures
