use Rattle.std.proofs.Common.{◌∙◌, ◌++◌, Option, ap}
use Rattle.std.specs.Prelude.{option_to_list}
use Rattle.trace_arguments.specs.Values.{ValuedParts}
use Rattle.trace_arguments.proofs.Members.{one_more}
use Rattle.trace_arguments.proofs.values.values_of.Goals as goal

pub loop-place-preserved : goal.loop-place-preserved
loop-place-preserved c =
    one_more c.args.entries.now c.args.calls.now c.args.c c.members_of-members.result.now c.loop-place.place _ c.loop-place.values.items _ c.loop-place-test.true c.loop-place.invariant
    (c.in_ok-push_value.ensures ∙ ap (λ (o : Option ValuedParts). c.loop-place.values.items ++ option_to_list o) c.valued_at.ensures)
