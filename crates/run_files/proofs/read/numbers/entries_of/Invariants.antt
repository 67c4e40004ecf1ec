use Rattle.std.proofs.Common.{◌≡◌, ◌++◌, drop, option_map}
use Rattle.serde_json.specs.View.{items_view}
use Rattle.run_files.specs.Numbers.{entries_in}
use Rattle.run_files.proofs.read.numbers.entries_of.Given as goal

abbrev pub invariant-loop-value : goal.invariant-loop-value
invariant-loop-value l = option_map (λ ns. l.entries.items ++ ns) (entries_in (items_view (drop l.value-index l.values))) ≡ entries_in (items_view l.values)
