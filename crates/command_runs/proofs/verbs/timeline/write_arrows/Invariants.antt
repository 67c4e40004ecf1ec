use Rattle.command_runs.proofs.Streaming.{Streams}
use Rattle.command_runs.proofs.verbs.timeline.write_arrows.Given as goal

abbrev pub invariant-loop-place : goal.invariant-loop-place
invariant-loop-place g l = Streams g.W.Write.written g.W.Write.failures l.fn.out l.out
