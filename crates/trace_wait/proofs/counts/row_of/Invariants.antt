use Rattle.std.proofs.Common.{◌≡◌, drop}
use Rattle.trace_wait.specs.Calls.{row_of}
use Rattle.trace_wait.proofs.counts.row_of.Given as goal

abbrev pub invariant-loop-t : goal.invariant-loop-t
invariant-loop-t l = row_of (drop l.t-index l.rows) l.comm ≡ row_of l.rows l.comm
