use Rattle.std.proofs.Common.{take}
use Rattle.trace_pair.specs.Ends.{AreLast}
use Rattle.trace_wait.specs.Matching.{free_receives}
use Rattle.trace_wait.proofs.unpaired.ends_asked.Given as goal

abbrev pub invariant-loop-o : goal.invariant-loop-o
invariant-loop-o l = AreLast (free_receives (take l.o-index l.ops) l.pairs) l.asked
