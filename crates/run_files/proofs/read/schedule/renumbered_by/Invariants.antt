use Rattle.std.proofs.Common.{◌≡◌, map, take}
use Rattle.run_files.specs.Schedules.{renumbered}
use Rattle.run_files.proofs.read.schedule.renumbered_by.Given as goal

abbrev pub invariant-loop-step : goal.invariant-loop-step
invariant-loop-step l = l.renumbered.items ≡ map (renumbered l.numbers) (take l.step-index l.steps)
