use Rattle.std.proofs.Common.{map, take, string_bytes}
use Rattle.run_inputs.specs.Prepared.{AreAt}
use Rattle.run_inputs.proofs.load.prepared.placed.Given as goal

abbrev pub invariant-loop-place : goal.invariant-loop-place
invariant-loop-place l = AreAt (map string_bytes l.names) (take l.place-index l.places) (map string_bytes l.ordered.items)
