use Rattle.std.proofs.Common.{inl, inr}
use Rattle.command_runs.proofs.Streaming.{or_again, own_untold, stays, stopped_by, stopped_on, streams_both, want_on, want_unwritten}
use Rattle.command_runs.proofs.Runs.{handed_on}
use Rattle.run_inputs.specs.declared.faults.fault.RunFault.TheVariants.{Memory}
use Rattle.command_runs.proofs.verbs.timeline.write_events.Goals as goal

pub returns-in_err-put_timeline_head-clause-written : goal.returns-in_err-put_timeline_head-clause-written
returns-in_err-put_timeline_head-clause-written g c = want_on c.from_residual.result g.W.Write.written g.W.Write.failures c.args.out.now c.from_residual.ensures.1

pub returns-in_err-write_ranks-clause-written : goal.returns-in_err-write_ranks-clause-written
returns-in_err-write_ranks-clause-written g c =
    stopped_on c.from_residual-in_err-write_ranks.result c.in_err-write_ranks.field-0.0 g.W.Write.written g.W.Write.failures c.args.out.now c.args.out.now c.write_ranks.new.out c.from_residual-in_err-write_ranks.ensures.1
    (stays g.W.Write.written g.W.Write.failures c.args.out.now) c.in_err-write_ranks.ensures.written

pub returns-in_err-put_marks-clause-written : goal.returns-in_err-put_marks-clause-written
returns-in_err-put_marks-clause-written g c =
    stopped_by c.from_residual-in_err-put_marks.result c.in_err-put_marks.field-0.0 g.W.Write.written g.W.Write.failures c.args.out.now c.write_ranks.new.out c.from_residual-in_err-put_marks.ensures.1 (want_unwritten _ c.in_err-put_marks.ensures) c.in_ok-write_ranks.ensures.written

pub returns-in_err-put_marks-clause-fault : goal.returns-in_err-put_marks-clause-fault
returns-in_err-put_marks-clause-fault g c =
    handed_on c.from_residual-in_err-put_marks.result _ _ c.from_residual-in_err-put_marks.ensures.1 (or_again (g.O.Opener.file c.args.run.now.files.now) c.args.run.now.manifest.now.pieces _ (inr c.in_err-put_marks.ensures))

pub returns-in_err-put_marks-clause-failed : goal.returns-in_err-put_marks-clause-failed
returns-in_err-put_marks-clause-failed g c = handed_on c.from_residual-in_err-put_marks.result _ _ c.from_residual-in_err-put_marks.ensures.1 (own_untold _ _ (inr c.in_err-put_marks.ensures))

pub returns-in_err-write_arrows-clause-written : goal.returns-in_err-write_arrows-clause-written
returns-in_err-write_arrows-clause-written g c =
    stopped_on c.from_residual-in_err-write_arrows.result c.in_err-write_arrows.field-0.0 g.W.Write.written g.W.Write.failures c.args.out.now c.write_ranks.new.out c.write_arrows.new.out c.from_residual-in_err-write_arrows.ensures.1 c.in_ok-write_ranks.ensures.written c.in_err-write_arrows.ensures.written

pub returns-in_err-write_arrows-clause-fault : goal.returns-in_err-write_arrows-clause-fault
returns-in_err-write_arrows-clause-fault g c =
    handed_on c.from_residual-in_err-write_arrows.result _ _ c.from_residual-in_err-write_arrows.ensures.1 (or_again (g.O.Opener.file c.args.run.now.files.now) c.args.run.now.manifest.now.pieces _ c.in_err-write_arrows.ensures.fault)

pub returns-in_err-write_arrows-clause-failed : goal.returns-in_err-write_arrows-clause-failed
returns-in_err-write_arrows-clause-failed g c = handed_on c.from_residual-in_err-write_arrows.result _ _ c.from_residual-in_err-write_arrows.ensures.1 (own_untold _ _ c.in_err-write_arrows.ensures.fault)

pub returns-in_err-put_timeline_end-clause-written : goal.returns-in_err-put_timeline_end-clause-written
returns-in_err-put_timeline_end-clause-written g c =
    stopped_by c.from_residual-in_err-put_timeline_end.result Memory g.W.Write.written g.W.Write.failures c.args.out.now c.write_arrows.new.out c.from_residual-in_err-put_timeline_end.ensures.1 (λ same. absurd (cc same))
    (streams_both g.W.Write.written g.W.Write.failures c.args.out.now c.write_ranks.new.out c.write_arrows.new.out c.in_ok-write_ranks.ensures.written c.in_ok-write_arrows.ensures.written)

pub returns-in_err-write_gathered-clause-written : goal.returns-in_err-write_gathered-clause-written
returns-in_err-write_gathered-clause-written g c =
    stopped_on c.from_residual-in_err-write_gathered.result c.in_err-write_gathered.field-0.0 g.W.Write.written g.W.Write.failures c.args.out.now c.write_arrows.new.out c.write_gathered.new.out c.from_residual-in_err-write_gathered.ensures.1
    (streams_both g.W.Write.written g.W.Write.failures c.args.out.now c.write_ranks.new.out c.write_arrows.new.out c.in_ok-write_ranks.ensures.written c.in_ok-write_arrows.ensures.written) c.in_err-write_gathered.ensures.written

pub returns-in_err-write_gathered-clause-fault : goal.returns-in_err-write_gathered-clause-fault
returns-in_err-write_gathered-clause-fault g c = handed_on c.from_residual-in_err-write_gathered.result _ _ c.from_residual-in_err-write_gathered.ensures.1 (inl c.in_err-write_gathered.ensures.fault)

pub returns-in_err-write_gathered-clause-failed : goal.returns-in_err-write_gathered-clause-failed
returns-in_err-write_gathered-clause-failed g c = handed_on c.from_residual-in_err-write_gathered.result _ _ c.from_residual-in_err-write_gathered.ensures.1 (own_untold _ _ (inl c.in_err-write_gathered.ensures.fault))

pub returns-clause-written : goal.returns-clause-written
returns-clause-written g c =
    streams_both g.W.Write.written g.W.Write.failures c.args.out.now c.write_arrows.new.out c.write_gathered.new.out
    (streams_both g.W.Write.written g.W.Write.failures c.args.out.now c.write_ranks.new.out c.write_arrows.new.out c.in_ok-write_ranks.ensures.written c.in_ok-write_arrows.ensures.written) c.in_ok-write_gathered.ensures.written
