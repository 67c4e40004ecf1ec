use Rattle.std.proofs.Common.{take}
use Rattle.trace_pair.specs.After.{comes_after}
use Rattle.trace_pair.specs.Settled.{Settles}
use Rattle.trace_pair.specs.Table.{sends_of, receives_of}
use Rattle.trace_pair.proofs.batch.batch_of.Given as goal

abbrev pub invariant-loop-own : goal.invariant-loop-own
invariant-loop-own l = Settles (comes_after l.ops) (sends_of l.ops) (receives_of (take l.own-index l.ops)) l.batch
