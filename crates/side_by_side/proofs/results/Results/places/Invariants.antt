use Rattle.std.proofs.Common.{◌≡◌}
use Rattle.side_by_side.proofs.results.Results.places.Given as goal

abbrev pub invariant-loop : goal.invariant-loop
invariant-loop g l = l.results ≡ l.jobs
