use Rattle.trace_arguments.specs.Arguments.{HasGroups}
use Rattle.trace_arguments.proofs.Lists.{all_more}
use Rattle.trace_arguments.proofs.arguments.push_line.Goals as goal

pub returns-in_ok-push-clause-groups : goal.returns-in_ok-push-clause-groups
returns-in_ok-push-clause-groups c = λ all.
    all_more (HasGroups c.args.layout.now c.args.entries.now c.args.calls.now) c.args.told.now.items _ c.in_ok-one.one c.in_ok-push.ensures.items c.in_ok-one.ensures.groups all
