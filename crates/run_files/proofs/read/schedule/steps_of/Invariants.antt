use Rattle.std.proofs.Common.{◌≡◌, ◌++◌, drop, option_map}
use Rattle.serde_json.specs.View.{items_view}
use Rattle.run_files.specs.Schedules.{steps_in}
use Rattle.run_files.proofs.read.schedule.steps_of.Given as goal

abbrev pub invariant-loop-value : goal.invariant-loop-value
invariant-loop-value l = option_map (λ steps. l.steps.items ++ steps) (steps_in (items_view (drop l.value-index l.values))) ≡ steps_in (items_view l.values)
