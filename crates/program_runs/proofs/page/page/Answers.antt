use Rattle.std.proofs.Common.{ℕ, List, subst, sym}
use Rattle.command_runs.specs.Pages.{IsPageOf}
use Rattle.program_runs.proofs.Runs.{run_refused, text_written, unwritten_untold}
use Rattle.program_runs.proofs.page.page.Goals as goal

pub returns-in_err-text-clause-ran : goal.returns-in_err-text-clause-ran
returns-in_err-text-clause-ran g c =
    run_refused _ _ _ c.from_residual.result c.in_err-text.field-0.0 g.W.Write.written g.W.Write.failures c.args.out.now c.from_residual.ensures.1 c.in_err-text.ensures.err

pub returns-clause-ran : goal.returns-clause-ran
returns-clause-ran g c =
    let is = subst (λ (t : List ℕ). IsPageOf (g.O.Opener.file c.args.run.now.files.now) c.args.run.now.layout.now c.args.run.now.manifest.now t) (sym c.deref.ensures.value) c.in_ok-text.ensures.ok in
    text_written _ _ c.deref.result.now c.write_text.result g.W.Write.written g.W.Write.failures c.args.out.now c.write_text.new.out is c.write_text.ensures.ok c.write_text.ensures.err

pub returns-clause-failed : goal.returns-clause-failed
returns-clause-failed g c = unwritten_untold _ _ c.write_text.result c.write_text.ensures.err
