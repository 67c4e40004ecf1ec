use Rattle.command_runs.proofs.Streaming.{Streams}
use Rattle.command_runs.proofs.verbs.timeline.write_ranks.Given as goal

abbrev pub invariant-loop-rank : goal.invariant-loop-rank
invariant-loop-rank g l = Streams g.W.Write.written g.W.Write.failures l.fn.out l.out
