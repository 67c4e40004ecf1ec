use Rattle.std.proofs.Common.{None, ◌∙◌, ap, map}
use Rattle.std.specs.Option.{option_map}
use Rattle.trace_stuck.specs.Shape.{shape}
use Rattle.trace_wait.proofs.Steps.{conditions_step}
use Rattle.trace_wait.proofs.Waits.{no_condition_at}
use Rattle.trace_wait.proofs.waiting.no_conditions.Goals as goal

pub loop-o-preserved : goal.loop-o-preserved
loop-o-preserved c = λ run.
    ap (map (option_map shape)) c.in_ok-push.ensures.items
    ∙ conditions_step run c.args.ops.now c.loop-o.o-index c.o-item.result c.loop-o.out.items None c.loop-o-test.true c.o-item.is (c.loop-o.invariant run)
    (no_condition_at run c.args.ops.now c.loop-o.o-index c.o-item.result c.requires c.loop-o-test.true c.o-item.is)
