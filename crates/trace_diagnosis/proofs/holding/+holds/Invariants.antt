use Rattle.std.proofs.Common.{◌≡◌, true, false, take}
use Rattle.std.specs.List.{list_any, list_all}
use Rattle.trace_stuck.specs.Shape.{shape}
use Rattle.trace_diagnosis.specs.Holding.{going, holds}
use Rattle.trace_diagnosis.proofs.holding.+holds.Given as goal

abbrev pub invariant-all_hold_by-loop-part : goal.invariant-all_hold_by-loop-part
invariant-all_hold_by-loop-part l = list_all (λ c. holds (going l.able) (shape c)) (take l.part-index l.parts) ≡ true

abbrev pub invariant-some_hold_by-loop-part : goal.invariant-some_hold_by-loop-part
invariant-some_hold_by-loop-part l = list_any (λ c. holds (going l.able) (shape c)) (take l.part-index l.parts) ≡ false
