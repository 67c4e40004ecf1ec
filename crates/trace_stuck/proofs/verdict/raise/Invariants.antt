use Rattle.std.proofs.Common.{◌≡◌, ◌<◌, ◌||◌, ℕ, length, take}
use Rattle.trace_stuck.specs.Release.{among}
use Rattle.trace_stuck.specs.Queue.{flag}
use Rattle.trace_stuck.proofs.verdict.raise.Given as goal

abbrev pub invariant-loop-r : goal.invariant-loop-r
invariant-loop-r l = (s : ℕ) → s < length l.fn.flags → flag l.flags s ≡ (flag l.fn.flags s || among (take l.r-index l.ranks) s)
