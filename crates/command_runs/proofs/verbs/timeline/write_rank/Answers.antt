use Rattle.command_runs.proofs.Streaming.{want_on}
use Rattle.command_runs.proofs.verbs.timeline.write_rank.Goals as goal

pub returns-in_err-completions-clause-written : goal.returns-in_err-completions-clause-written
returns-in_err-completions-clause-written g c = want_on c.from_residual.result g.W.Write.written g.W.Write.failures c.args.out.now c.from_residual.ensures.1

pub returns-in_err-texts-clause-written : goal.returns-in_err-texts-clause-written
returns-in_err-texts-clause-written g c = want_on c.from_residual-in_err-texts.result g.W.Write.written g.W.Write.failures c.args.out.now c.from_residual-in_err-texts.ensures.1

pub returns-in_err-received-clause-written : goal.returns-in_err-received-clause-written
returns-in_err-received-clause-written g c = want_on c.from_residual-in_err-received.result g.W.Write.written g.W.Write.failures c.args.out.now c.from_residual-in_err-received.ensures.1

pub returns-in_err-put_track-clause-written : goal.returns-in_err-put_track-clause-written
returns-in_err-put_track-clause-written g c = want_on c.from_residual-in_err-put_track.result g.W.Write.written g.W.Write.failures c.args.out.now c.from_residual-in_err-put_track.ensures.1
