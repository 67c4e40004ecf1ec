use Rattle.std.proofs.Common.{inr}
use Rattle.command_runs.proofs.Streaming.{again_unwritten, or_again, own_untold, stays, stopped_by, stopped_on, streams_both}
use Rattle.command_runs.proofs.Runs.{handed_on}
use Rattle.command_runs.proofs.verbs.timeline.write_ranks.Goals as goal

pub loop-rank-init : goal.loop-rank-init
loop-rank-init g c = stays g.W.Write.written g.W.Write.failures c.args.out.now

pub loop-rank-preserved : goal.loop-rank-preserved
loop-rank-preserved g c =
    streams_both g.W.Write.written g.W.Write.failures c.args.out.now c.loop-rank.out c.write_rank.new.out c.loop-rank.invariant c.in_ok-write_rank.ensures.written

pub returns-in_err-own-clause-written : goal.returns-in_err-own-clause-written
returns-in_err-own-clause-written g c =
    stopped_by c.from_residual.result c.in_err-own.field-0.0 g.W.Write.written g.W.Write.failures c.args.out.now c.loop-rank.out c.from_residual.ensures.1
    (again_unwritten (g.O.Opener.file c.args.run.now.files.now) c.args.run.now.manifest.now.pieces _ c.in_err-own.ensures.err) c.loop-rank.invariant

pub returns-in_err-own-clause-fault : goal.returns-in_err-own-clause-fault
returns-in_err-own-clause-fault g c = handed_on c.from_residual.result _ _ c.from_residual.ensures.1 (inr c.in_err-own.ensures.err)

pub returns-in_err-write_rank-clause-written : goal.returns-in_err-write_rank-clause-written
returns-in_err-write_rank-clause-written g c =
    stopped_on c.from_residual-in_err-write_rank.result c.in_err-write_rank.field-0.0 g.W.Write.written g.W.Write.failures c.args.out.now c.loop-rank.out c.write_rank.new.out c.from_residual-in_err-write_rank.ensures.1
    c.loop-rank.invariant c.in_err-write_rank.ensures.written

pub returns-in_err-write_rank-clause-fault : goal.returns-in_err-write_rank-clause-fault
returns-in_err-write_rank-clause-fault g c =
    handed_on c.from_residual-in_err-write_rank.result _ _ c.from_residual-in_err-write_rank.ensures.1 (or_again (g.O.Opener.file c.args.run.now.files.now) c.args.run.now.manifest.now.pieces _ c.in_err-write_rank.ensures.fault)

pub returns-in_err-write_rank-clause-failed : goal.returns-in_err-write_rank-clause-failed
returns-in_err-write_rank-clause-failed g c = handed_on c.from_residual-in_err-write_rank.result _ _ c.from_residual-in_err-write_rank.ensures.1 (own_untold _ _ c.in_err-write_rank.ensures.fault)
