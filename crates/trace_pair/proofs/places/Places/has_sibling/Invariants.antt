use Rattle.std.proofs.Common.{◌≡◌, ◌-◌, drop, length}
use Rattle.trace_pair.specs.Waiting.{is_followed}
use Rattle.trace_pair.proofs.places.Places.has_sibling.Given as goal

-- what was passed is of the call, and none of it waits
abbrev pub invariant-loop-place : goal.invariant-loop-place
invariant-loop-place l = is_followed l.messages l.takers l.call (drop l.next l.self) ≡ is_followed l.messages l.takers l.call (drop 1 l.self)

abbrev pub decreases-loop-place : goal.decreases-loop-place
decreases-loop-place l = length l.self - l.next
