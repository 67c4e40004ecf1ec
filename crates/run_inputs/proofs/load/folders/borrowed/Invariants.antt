use Rattle.std.proofs.Common.{◌≡◌, map, take, string_bytes}
use Rattle.run_inputs.proofs.load.folders.borrowed.Given as goal

abbrev pub invariant-loop-name : goal.invariant-loop-name
invariant-loop-name l = map (λ n. n.now) l.lent.items ≡ map string_bytes (take l.name-index l.names)
