use Rattle.command_runs.proofs.Streaming.{Streams}
use Rattle.command_runs.proofs.verbs.calls.write_rank.Given as goal

abbrev pub invariant-loop-number : goal.invariant-loop-number
invariant-loop-number g l = Streams g.W.Write.written g.W.Write.failures l.fn.out l.out
