use Rattle.std.proofs.Common.{◌≡◌, take}
use Rattle.trace_wait.specs.Tallies.{merged}
use Rattle.trace_wait.proofs.tally.merge.Given as goal

abbrev pub invariant-loop-k : goal.invariant-loop-k
invariant-loop-k l = l.tallies.items ≡ merged (take l.k l.calls) l.fn.tallies.items
