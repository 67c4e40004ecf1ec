use Rattle.std.proofs.Common.{◌≡◌}
use Rattle.trace_pair.specs.Table.{fresh}
use Rattle.trace_pair.proofs.index.fresh_ops.Given as goal

abbrev pub invariant-loop : goal.invariant-loop
invariant-loop l = l.held.items ≡ fresh l.counter
