use Rattle.std.proofs.Common.{◌≡◌, ◌++◌, drop, option_map}
use Rattle.serde_json.specs.View.{items_view}
use Rattle.run_files.specs.Fields.{u32s_in}
use Rattle.run_files.proofs.read.fields.u32s_of.Given as goal

abbrev pub invariant-loop-value : goal.invariant-loop-value
invariant-loop-value l = option_map (λ ns. l.numbers.items ++ ns) (u32s_in (items_view (drop l.value-index l.values))) ≡ u32s_in (items_view l.values)
