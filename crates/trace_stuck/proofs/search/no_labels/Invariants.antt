use Rattle.std.proofs.Common.{◌≡◌, None, replicate}
use Rattle.trace_stuck.proofs.search.no_labels.Given as goal

abbrev pub invariant-loop : goal.invariant-loop
invariant-loop l = l.labels.items ≡ replicate l.counter None
