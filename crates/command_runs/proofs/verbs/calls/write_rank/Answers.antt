use Rattle.std.proofs.Common.{inl, inr}
use Rattle.command_runs.proofs.Streaming.{stays, stopped_by, stopped_on, streams_both, want_on, want_unwritten}
use Rattle.command_runs.proofs.Runs.{handed_on}
use Rattle.command_runs.proofs.verbs.calls.write_rank.Goals as goal

pub returns-in_err-completions-clause-written : goal.returns-in_err-completions-clause-written
returns-in_err-completions-clause-written g c = want_on c.from_residual.result g.W.Write.written g.W.Write.failures c.args.out.now c.from_residual.ensures.1

pub returns-in_err-texts-clause-written : goal.returns-in_err-texts-clause-written
returns-in_err-texts-clause-written g c = want_on c.from_residual-in_err-texts.result g.W.Write.written g.W.Write.failures c.args.out.now c.from_residual-in_err-texts.ensures.1

pub loop-number-init : goal.loop-number-init
loop-number-init g c = stays g.W.Write.written g.W.Write.failures c.args.out.now

pub loop-number-preserved : goal.loop-number-preserved
loop-number-preserved g c =
    streams_both g.W.Write.written g.W.Write.failures c.args.out.now c.loop-number.out c.write_full.new.out c.loop-number.invariant c.in_ok-write_full.ensures.written

pub returns-in_err-put_rows-clause-written : goal.returns-in_err-put_rows-clause-written
returns-in_err-put_rows-clause-written g c =
    stopped_by c.from_residual-in_err-put_rows.result c.in_err-put_rows.field-0.0 g.W.Write.written g.W.Write.failures c.args.out.now c.loop-number.out c.from_residual-in_err-put_rows.ensures.1
    (want_unwritten _ c.in_err-put_rows.ensures) c.loop-number.invariant

pub returns-in_err-put_rows-clause-fault : goal.returns-in_err-put_rows-clause-fault
returns-in_err-put_rows-clause-fault g c = handed_on c.from_residual-in_err-put_rows.result _ _ c.from_residual-in_err-put_rows.ensures.1 (inr c.in_err-put_rows.ensures)

pub returns-in_err-write_full-clause-written : goal.returns-in_err-write_full-clause-written
returns-in_err-write_full-clause-written g c =
    stopped_on c.from_residual-in_err-write_full.result c.in_err-write_full.field-0.0 g.W.Write.written g.W.Write.failures c.args.out.now c.loop-number.out c.write_full.new.out c.from_residual-in_err-write_full.ensures.1
    c.loop-number.invariant c.in_err-write_full.ensures.written

pub returns-in_err-write_full-clause-fault : goal.returns-in_err-write_full-clause-fault
returns-in_err-write_full-clause-fault g c = handed_on c.from_residual-in_err-write_full.result _ _ c.from_residual-in_err-write_full.ensures.1 (inl c.in_err-write_full.ensures.fault)
