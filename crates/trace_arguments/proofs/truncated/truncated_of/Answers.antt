use Rattle.trace_arguments.specs.Truncated.{truncated_by}
use Rattle.std.proofs.Common.{◌∙◌, List, ◌++◌, [], ap}
use Rattle.std.specs.List.{cons_option}
use Rattle.std.specs.Prelude.{Option}
use Rattle.trace_arguments.specs.declared.truncated.Truncated.{Truncated}
use Rattle.trace_arguments.proofs.Lists.{kept_more}
use Rattle.trace_arguments.proofs.truncated.truncated_of.Goals as goal

pub loop-pair-preserved : goal.loop-pair-preserved
loop-pair-preserved c =
    kept_more (truncated_by c.args.ops.now) c.args.pairs.now c.loop-pair.pair-index _ c.loop-pair.found.items _ c.loop-pair-test.true c.loop-pair.invariant
    (c.in_ok-push_truncated.ensures ∙ ap (λ (o : Option Truncated). c.loop-pair.found.items ++ cons_option o []) c.truncated_by.ensures)
