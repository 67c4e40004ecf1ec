use Rattle.std.proofs.Common.{◌≡◌, map, take}
use Rattle.trace_stuck.specs.Shape.{shape}
use Rattle.trace_wait.specs.Polls.{asked_of}
use Rattle.trace_wait.proofs.polls.asked_of_all.Given as goal

abbrev pub invariant-loop-poll : goal.invariant-loop-poll
invariant-loop-poll l = map shape l.asked.items ≡ map (asked_of l.run) (take l.poll-index l.polls)
