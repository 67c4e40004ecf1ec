use Rattle.std.proofs.Common.{take}
use Rattle.trace_pair.specs.After.{communications}
use Rattle.trace_pair.specs.Reach.{AreRowsOf}
use Rattle.trace_pair.proofs.reach.rows_of.Given as goal

abbrev pub invariant-loop-entered : goal.invariant-loop-entered
invariant-loop-entered l = AreRowsOf (communications (take l.entered-index l.rounds)) l.rows
