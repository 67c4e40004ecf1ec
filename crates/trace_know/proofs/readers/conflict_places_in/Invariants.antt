use Rattle.std.proofs.Common.{◌≡◌, ◌++◌, drop}
use Rattle.trace_know.specs.Listing.{conflicts_in}
use Rattle.trace_know.specs.Runs.{listed}
use Rattle.trace_know.proofs.readers.conflict_places_in.Given as goal

abbrev pub invariant-loop-index : goal.invariant-loop-index
invariant-loop-index l = l.places.items ++ conflicts_in (listed (drop l.index l.runs.items)) ≡ conflicts_in (listed l.runs.items)
