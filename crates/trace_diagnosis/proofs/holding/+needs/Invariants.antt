use Rattle.std.proofs.Common.{◌≡◌, ◌++◌, take}
use Rattle.std.specs.List.{flat_map}
use Rattle.trace_stuck.specs.Shape.{shape}
use Rattle.trace_diagnosis.specs.Holding.{going}
use Rattle.trace_diagnosis.specs.Parts.{may_need, unmet}
use Rattle.trace_diagnosis.proofs.holding.+needs.Given as goal

abbrev pub invariant-push_of_all-loop-part : goal.invariant-push_of_all-loop-part
invariant-push_of_all-loop-part l = l.needs.items ≡ l.fn.needs.items ++ flat_map (λ c. unmet (going l.others) (shape c)) (take l.part-index l.parts)

abbrev pub invariant-push_of_one-loop-part : goal.invariant-push_of_one-loop-part
invariant-push_of_one-loop-part l = l.needs.items ≡ l.fn.needs.items ++ flat_map (λ c. may_need (going l.others) l.may_hold (shape c)) (take l.part-index l.parts)
