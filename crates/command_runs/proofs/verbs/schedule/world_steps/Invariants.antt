use Rattle.std.proofs.Common.{◌≡◌, take}
use Rattle.command_runs.specs.Schedules.{held_lists, world_steps}
use Rattle.command_runs.proofs.verbs.schedule.world_steps.Given as goal

abbrev pub invariant-loop-planned : goal.invariant-loop-planned
invariant-loop-planned l = l.steps.items ≡ world_steps (held_lists l.lists) (take l.planned-index l.schedule)
