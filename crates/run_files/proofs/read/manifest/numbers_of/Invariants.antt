use Rattle.std.proofs.Common.{◌≡◌, ◌≤◌, ◌++◌, drop}
use Rattle.serde_json.specs.View.{items_view}
use Rattle.run_files.specs.Manifests.{numbers_from}
use Rattle.run_files.proofs.read.manifest.numbers_of.Given as goal

abbrev pub invariant-loop-value : goal.invariant-loop-value
invariant-loop-value l = (l.texts ≤ l.value-index) × (l.numbers.items ++ numbers_from l.texts (items_view (drop l.value-index l.values)) ≡ numbers_from 0 (items_view l.values))
