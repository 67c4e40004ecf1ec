use Rattle.std.proofs.Common.{take}
use Rattle.trace_wait.specs.Entries.{IsRowOf}
use Rattle.trace_wait.proofs.entries.row_of.Given as goal

abbrev pub invariant-loop-e : goal.invariant-loop-e
invariant-loop-e l = IsRowOf l.row (take l.e-index l.entries)
