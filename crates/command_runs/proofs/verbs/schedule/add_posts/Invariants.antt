use Rattle.std.proofs.Common.{◌≡◌, ◌++◌, take}
use Rattle.command_runs.specs.Schedules.{posts_of}
use Rattle.command_runs.proofs.verbs.schedule.add_posts.Given as goal

abbrev pub invariant-loop-segment : goal.invariant-loop-segment
invariant-loop-segment l = l.steps.items ≡ l.initial.steps.items ++ posts_of l.worker l.node (take l.segment-index l.segments)
