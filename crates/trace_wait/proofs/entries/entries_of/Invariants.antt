use Rattle.std.proofs.Common.{take}
use Rattle.trace_wait.specs.Entries.{AreRows}
use Rattle.trace_wait.proofs.entries.entries_of.Given as goal

abbrev pub invariant-loop-o : goal.invariant-loop-o
invariant-loop-o l = AreRows l.rows.items (take l.o-index l.ops)
