use Rattle.std.proofs.Common.{◌≡◌, ◌+◌, drop}
use Rattle.trace_know.specs.Runs.{conflicts_among}
use Rattle.trace_know.proofs.run.conflicts_behind.Given as goal

abbrev pub invariant-loop-known : goal.invariant-loop-known
invariant-loop-known l = l.conflicts + conflicts_among (drop l.known-index l.cells) ≡ conflicts_among l.cells
