use Rattle.std.proofs.Common.{◌≡◌, length}
use Rattle.trace_pair.specs.Waiting.{from_waiting}
use Rattle.trace_pair.proofs.places.Places.first_waiting.Given as goal

abbrev pub invariant-loop-place : goal.invariant-loop-place
invariant-loop-place l = from_waiting l.takers l.self ≡ from_waiting l.takers l.initial.self

abbrev pub decreases-loop-place : goal.decreases-loop-place
decreases-loop-place l = length l.self
