use Rattle.std.proofs.Common.{◌≡◌, ◌++◌, drop, option_map}
use Rattle.serde_json.specs.View.{items_view}
use Rattle.run_files.specs.Layouts.{communicators_in}
use Rattle.run_files.proofs.read.layout.communicators_of.Given as goal

abbrev pub invariant-loop-value : goal.invariant-loop-value
invariant-loop-value l = option_map (λ gs. l.found.items ++ gs) (communicators_in (items_view (drop l.value-index l.values))) ≡ communicators_in (items_view l.values)
