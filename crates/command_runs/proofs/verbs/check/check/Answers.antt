use Rattle.std.proofs.Common.{rules, ◌≡◌, ℕ, List, inl, refl, string_bytes, subst, sym}
use Rattle.trace_check.specs.Checker.{Held, IsCheckOf}
use Rattle.run_inputs.specs.declared.faults.fault.RunFault.TheVariants.{Memory}
use Rattle.command_runs.proofs.Runs.{handed_on, run_refused, text_broken, want_untold}
use Rattle.command_runs.proofs.verbs.check.check.Goals as goal

pub returns-in_err-checker-clause-ran : goal.returns-in_err-checker-clause-ran
returns-in_err-checker-clause-ran g c =
    run_refused _ _ _ c.from_residual.result c.in_err-checker.field-0.0 g.W.Write.written g.W.Write.failures c.args.out.now c.from_residual.ensures.1 c.in_err-checker.ensures.err

pub returns-in_err-lines-clause-ran : goal.returns-in_err-lines-clause-ran
returns-in_err-lines-clause-ran g c =
    run_refused _ _ _ c.from_residual-in_err-lines.result Memory g.W.Write.written g.W.Write.failures c.args.out.now c.from_residual-in_err-lines.ensures.1 (inl refl)

pub returns-in_err-lines-clause-failed : goal.returns-in_err-lines-clause-failed
returns-in_err-lines-clause-failed g c = want_untold _ c.from_residual-in_err-lines.result c.from_residual-in_err-lines.ensures.1

pub returns-in_err-write_text-clause-ran : goal.returns-in_err-write_text-clause-ran
returns-in_err-write_text-clause-ran g c =
    let of = c.in_ok-checker.ensures.ok in
    let l = c.args.run.now.layout.now in
    let lines = string_bytes c.in_ok-lines.lines in
    let text : c.as_bytes.result.now ≡ lines = search rules in
    let is : IsCheckOf l of.0 lines = subst (λ (h : Held). IsCheckOf h.layout h.know lines) of.2 c.in_ok-lines.ensures.text in
    text_broken _ _ c.as_bytes.result.now c.from_residual-in_err-write_text.result c.in_err-write_text.field-0.0 g.W.Write.written g.W.Write.failures c.args.out.now c.write_text.new.out
    c.from_residual-in_err-write_text.ensures.1 (of.0, of.1, subst (λ (t : List ℕ). IsCheckOf l of.0 t) (sym text) is) c.in_err-write_text.ensures.err

pub returns-in_err-write_text-clause-failed : goal.returns-in_err-write_text-clause-failed
returns-in_err-write_text-clause-failed g c =
    handed_on c.from_residual-in_err-write_text.result _ _ c.from_residual-in_err-write_text.ensures.1 (λ path line is. let one = c.in_err-write_text.ensures.err.0 in absurd (cc (one, is)))

pub returns-clause-ran : goal.returns-clause-ran
returns-clause-ran g c =
    let of = c.in_ok-checker.ensures.ok in
    let l = c.args.run.now.layout.now in
    let lines = string_bytes c.in_ok-lines.lines in
    let text : c.as_bytes.result.now ≡ lines = search rules in
    let is : IsCheckOf l of.0 lines = subst (λ (h : Held). IsCheckOf h.layout h.know lines) of.2 c.in_ok-lines.ensures.text in (
      c.outcome_of.ensures c.in_ok-lines.ensures.held,
      (c.as_bytes.result.now, (of.0, of.1, subst (λ (t : List ℕ). IsCheckOf l of.0 t) (sym text) is), c.in_ok-write_text.ensures.ok.1),
    )
