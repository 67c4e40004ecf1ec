use Rattle.std.specs.Ordering.{int_eq}
use Rattle.trace_wait.proofs.Fronts.{any_more}
use Rattle.trace_wait.proofs.active.set_of.Goals as goal

pub loop-number-preserved : goal.loop-number-preserved
loop-number-preserved c = λ x.
    any_more (λ y. int_eq y x) c.args.numbers.now c.loop-number.number-index _ _ _ c.loop-number-test.true (c.loop-number.invariant x) (c.in_ok-note_number.ensures x)
