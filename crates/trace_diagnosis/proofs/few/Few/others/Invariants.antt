use Rattle.std.proofs.Common.{◌≡◌, filter, map, take}
use Rattle.trace_diagnosis.specs.Fewest.{has_other}
use Rattle.trace_diagnosis.proofs.few.Few.others.Given as goal

abbrev pub invariant-loop-thing : goal.invariant-loop-thing
invariant-loop-thing l = l.found.items ≡ map (λ t. t.place) (filter (has_other l.value) (take l.thing-index l.thing-items))
