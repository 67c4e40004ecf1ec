use Rattle.std.proofs.Common.{refl, inl}
use Rattle.command_runs.proofs.Packing.{run_unwritten, unwritten_untold}
use Rattle.command_runs.proofs.Runs.{handed_on, run_refused}
use Rattle.command_runs.proofs.verbs.pack.pack.Goals as goal

pub returns-in_err-know-clause-ran : goal.returns-in_err-know-clause-ran
returns-in_err-know-clause-ran g c =
    run_refused _ _ _ c.from_residual.result c.in_err-know.field-0.0 g.W.Write.written g.W.Write.failures c.args.out.now c.from_residual.ensures.1 (inl c.in_err-know.ensures.err)

pub returns-in_err-write_known-clause-ran : goal.returns-in_err-write_known-clause-ran
returns-in_err-write_known-clause-ran g c =
    run_unwritten (g.O.Opener.file c.args.run.now.files.now) c.args.run.now.layout.now c.args.run.now.manifest.now c.in_ok-know.know g.W.Write.written g.W.Write.failures c.args.out.now c.write_known.new.out c.from_residual-in_err-write_known.result c.in_err-write_known.field-0.0
    c.from_residual-in_err-write_known.ensures.1 c.in_ok-know.ensures.ok c.in_err-write_known.ensures.err

pub returns-in_err-write_known-clause-failed : goal.returns-in_err-write_known-clause-failed
returns-in_err-write_known-clause-failed g c =
    handed_on c.from_residual-in_err-write_known.result _ _ c.from_residual-in_err-write_known.ensures.1
    (unwritten_untold _ c.in_ok-know.know g.W.Write.written g.W.Write.failures c.args.out.now c.write_known.new.out c.in_err-write_known.field-0.0 c.in_err-write_known.ensures.err)

pub returns-clause-ran : goal.returns-clause-ran
returns-clause-ran g c =
    let wrote = c.in_ok-write_known.ensures.ok in
    (refl, (wrote.0, (c.in_ok-know.know, c.in_ok-know.ensures.ok, wrote.1), wrote.2))
