use Rattle.std.proofs.Common.{◌∙◌, sym}
use Rattle.trace_pair.specs.After.{comes_after}
use Rattle.trace_pair.specs.Ends.{may_take}
use Rattle.trace_diagnosis.proofs.Fronting.{free_here, free_nowhere, one_taken}
use Rattle.trace_diagnosis.proofs.starved.first_free.Goals as goal

pub on-preserved : goal.on-preserved
on-preserved c = λ free last h.
    one_taken (may_take (comes_after c.args.reaches.now) free) c.args.messages.now c.on.at _ c.on-test.true (c.on.invariant free last h) (sym (c.may_take.ensures free last) ∙ c.if-not-may_take.false)

pub returns-then-not-may_take : goal.returns-then-not-may_take
returns-then-not-may_take c = λ free last h.
    free_here (may_take (comes_after c.args.reaches.now) free) c.args.messages.now c.on.at _ c.on-test.true (c.on.invariant free last h) (sym (c.may_take.ensures free last) ∙ c.if-not-may_take.true)

pub returns : goal.returns
returns c = λ free last h.
    free_nowhere (may_take (comes_after c.args.reaches.now) free) c.args.messages.now c.on.at c.on-test.false (c.on.invariant free last h)
