use Rattle.std.proofs.Common.{take}
use Rattle.trace_pair.specs.Reach.{AreReachesOf}
use Rattle.trace_pair.proofs.reach.reaches_of.Given as goal

abbrev pub invariant-loop-own : goal.invariant-loop-own
invariant-loop-own l = AreReachesOf (take l.own-index l.ops) l.table.items
