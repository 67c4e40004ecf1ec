use Rattle.std.proofs.Common.{List, inl, refl, subst, sym}
use Rattle.trace_ops.specs.Ops.{AreOwn, Ops}
use Rattle.run_inputs.specs.declared.faults.fault.RunFault.TheVariants.{Memory}
use Rattle.command_runs.proofs.Runs.{handed_on}
use Rattle.command_runs.proofs.Streaming.{is_table, refused_again, refused_first, stopped_writing}
use Rattle.command_runs.proofs.verbs.timeline.timeline.Goals as goal

pub of_answer-requires : goal.of_answer-requires
of_answer-requires g c = let answers = c.in_ok-told.ensures.ok in (c.args.run.now.layout.now, answers.0, answers.2)

pub new-requires-2 : goal.new-requires-2
new-requires-2 g c = subst (λ (os : List Ops). AreOwn 0 os) (sym c.deref.ensures.value) c.in_ok-ops.ensures.ok.1

pub returns-in_err-told-clause-ran : goal.returns-in_err-told-clause-ran
returns-in_err-told-clause-ran g c =
    refused_first _ _ _ c.from_residual.result c.in_err-told.field-0.0 g.W.Write.written g.W.Write.failures c.args.out.now c.from_residual.ensures.1 c.in_err-told.ensures.err

pub returns-in_err-partners-clause-ran : goal.returns-in_err-partners-clause-ran
returns-in_err-partners-clause-ran g c = refused_first _ _ _ c.from_residual-in_err-partners.result Memory g.W.Write.written g.W.Write.failures c.args.out.now c.from_residual-in_err-partners.ensures.1 (inl refl)

pub returns-in_err-arrows-clause-ran : goal.returns-in_err-arrows-clause-ran
returns-in_err-arrows-clause-ran g c = refused_first _ _ _ c.from_residual-in_err-arrows.result Memory g.W.Write.written g.W.Write.failures c.args.out.now c.from_residual-in_err-arrows.ensures.1 (inl refl)

pub returns-in_err-ops-clause-ran : goal.returns-in_err-ops-clause-ran
returns-in_err-ops-clause-ran g c =
    refused_again _ _ _ c.from_residual-in_err-ops.result c.in_err-ops.field-0.0 g.W.Write.written g.W.Write.failures c.args.out.now c.from_residual-in_err-ops.ensures.1 c.in_err-ops.ensures.err

pub returns-in_err-table-clause-ran : goal.returns-in_err-table-clause-ran
returns-in_err-table-clause-ran g c = refused_first _ _ _ c.from_residual-in_err-table.result Memory g.W.Write.written g.W.Write.failures c.args.out.now c.from_residual-in_err-table.ensures.1 (inl refl)

pub returns-in_err-write_events-clause-ran : goal.returns-in_err-write_events-clause-ran
returns-in_err-write_events-clause-ran g c =
    stopped_writing _ _ _ c.from_residual-in_err-write_events.result c.in_err-write_events.field-0.0 g.W.Write.written g.W.Write.failures c.args.out.now c.write_events.new.out c.from_residual-in_err-write_events.ensures.1
    (λ text. is_table (g.O.Opener.file c.args.run.now.files.now) c.args.run.now.layout.now c.args.run.now.manifest.now c.in_ok-told.told.answer text c.in_ok-told.ensures.ok)
    c.in_err-write_events.ensures.written c.in_err-write_events.ensures.fault

pub returns-clause-ran : goal.returns-clause-ran
returns-clause-ran g c =
    let grew = c.in_ok-write_events.ensures.written.0 in
    (refl, (grew.0, is_table (g.O.Opener.file c.args.run.now.files.now) c.args.run.now.layout.now c.args.run.now.manifest.now c.in_ok-told.told.answer grew.0 c.in_ok-told.ensures.ok, grew.1))

pub returns-in_err-write_events-clause-failed : goal.returns-in_err-write_events-clause-failed
returns-in_err-write_events-clause-failed g c = handed_on c.from_residual-in_err-write_events.result _ _ c.from_residual-in_err-write_events.ensures.1 c.in_err-write_events.ensures.failed
