use Rattle.std.proofs.Common.{inl}
use Rattle.command_runs.proofs.Streaming.{stays, stopped_by, stopped_on, streams_both}
use Rattle.command_runs.proofs.Runs.{handed_on}
use Rattle.run_inputs.specs.declared.faults.fault.RunFault.TheVariants.{Memory}
use Rattle.command_runs.proofs.verbs.timeline.write_arrows.Goals as goal

pub loop-place-init : goal.loop-place-init
loop-place-init g c = stays g.W.Write.written g.W.Write.failures c.args.out.now

pub loop-place-preserved : goal.loop-place-preserved
loop-place-preserved g c =
    streams_both g.W.Write.written g.W.Write.failures c.args.out.now c.loop-place.out c.write_full.new.out c.loop-place.invariant c.in_ok-write_full.ensures.written

pub returns-in_err-put_arrow-clause-written : goal.returns-in_err-put_arrow-clause-written
returns-in_err-put_arrow-clause-written g c =
    stopped_by c.from_residual.result Memory g.W.Write.written g.W.Write.failures c.args.out.now c.loop-place.out c.from_residual.ensures.1 (λ same. absurd (cc same)) c.loop-place.invariant

pub returns-in_err-write_full-clause-written : goal.returns-in_err-write_full-clause-written
returns-in_err-write_full-clause-written g c =
    stopped_on c.from_residual-in_err-write_full.result c.in_err-write_full.field-0.0 g.W.Write.written g.W.Write.failures c.args.out.now c.loop-place.out c.write_full.new.out c.from_residual-in_err-write_full.ensures.1
    c.loop-place.invariant c.in_err-write_full.ensures.written

pub returns-in_err-write_full-clause-fault : goal.returns-in_err-write_full-clause-fault
returns-in_err-write_full-clause-fault g c = handed_on c.from_residual-in_err-write_full.result _ _ c.from_residual-in_err-write_full.ensures.1 (inl c.in_err-write_full.ensures.fault)
