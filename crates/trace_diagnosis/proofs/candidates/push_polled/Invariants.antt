use Rattle.std.proofs.Common.{◌≡◌, ◌++◌, take}
use Rattle.std.specs.List.{flat_map}
use Rattle.trace_diagnosis.specs.Starving.{probe_at}
use Rattle.trace_diagnosis.proofs.candidates.push_polled.Given as goal

abbrev pub invariant-loop-one : goal.invariant-loop-one
invariant-loop-one l = l.found.items ≡ l.fn.found.items ++ flat_map (λ a. probe_at l.layout l.rank (a.number, a.call.now)) (take l.one-index l.asked)
