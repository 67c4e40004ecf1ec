use Rattle.std.proofs.Common.{◌≡◌, ◌<◌, ℕ, true, take, length}
use Rattle.trace_stuck.specs.Graph.{label_at}
use Rattle.trace_stuck.specs.Release.{among}
use Rattle.trace_stuck.proofs.heart.does_leak.Given as goal

abbrev pub invariant-loop-s : goal.invariant-loop-s
invariant-loop-s l = (y : ℕ) → among (take l.s-index l.nodes) y ≡ true → y < length l.edges → label_at l.labels y ≡ label_at l.labels l.r
