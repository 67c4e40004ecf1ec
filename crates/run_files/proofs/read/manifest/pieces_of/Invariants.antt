use Rattle.std.proofs.Common.{◌≡◌, ◌++◌, drop, option_map}
use Rattle.serde_json.specs.View.{items_view}
use Rattle.run_files.specs.Manifests.{pieces_in}
use Rattle.run_files.proofs.read.manifest.pieces_of.Given as goal

abbrev pub invariant-loop-value : goal.invariant-loop-value
invariant-loop-value l = option_map (λ ps. l.pieces.items ++ ps) (pieces_in (items_view (drop l.value-index l.values))) ≡ pieces_in (items_view l.values)
