use Rattle.std.proofs.Common.{◌∙◌, ℕ, List, ap, sym}
use Rattle.std.specs.List.{list_any}
use Rattle.trace_pair.specs.Reach.{is_passed_on}
use Rattle.trace_pair.proofs.Reached.{any_here, any_next}
use Rattle.trace_pair.proofs.reach.RankReach.is_passed.Goals as goal

pub returns-then-is_passed_on : goal.returns-then-is_passed_on
returns-then-is_passed_on c =
    let p = is_passed_on c.args.self.now c.args.receiver.now c.args.call c.args.ended in
    sym (any_here p c.deref-comm-items.result.now c.loop-comm.comm-index c.loop-comm-test.true (sym c.is_passed_on.ensures ∙ c.if-is_passed_on.true))
    ∙ c.loop-comm.invariant ∙ ap (λ (l : List ℕ). list_any p l) c.deref-comm-items.ensures.value

pub loop-comm-preserved : goal.loop-comm-preserved
loop-comm-preserved c =
    let p = is_passed_on c.args.self.now c.args.receiver.now c.args.call c.args.ended in
    any_next p c.deref-comm-items.result.now c.loop-comm.comm-index c.loop-comm-test.true (sym c.is_passed_on.ensures ∙ c.if-is_passed_on.false) ∙ c.loop-comm.invariant
