use Rattle.std.proofs.Common.{◌≡◌, ◌+◌, length, drop}
use Rattle.trace_know.specs.Listing.{conflicts_in}
use Rattle.trace_know.specs.Runs.{listed}
use Rattle.trace_know.proofs.readers.count_conflicts.Given as goal

abbrev pub invariant-loop-index : goal.invariant-loop-index
invariant-loop-index l = l.count + length (conflicts_in (listed (drop l.index l.runs.items))) ≡ length (conflicts_in (listed l.runs.items))
