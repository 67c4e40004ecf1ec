use Rattle.comm_makings.specs.declared.group_value.GroupValue.TheVariants as values
use Rattle.comm_makings.proofs.Right.{listed_more}
use Rattle.comm_makings.proofs.run.first_values.Goals as goal
use Rattle.comm_makings.proofs.run.first_values.Goals.{then-is_group+in_ok-push, else-is_group+in_ok-push-2}

pub loop-call-preserved : goal.loop-call-preserved
loop-call-preserved c = elim c.if-is_group.branch [
  | then-is_group+in_ok-push w ↦ rw w.values-is (rw w.in_ok-push.ensures.items (listed_more c.loop-call.values.items values.Waits c.loop-call.invariant tt))
  | else-is_group+in_ok-push-2 w ↦ rw w.values-is (rw w.in_ok-push-2.ensures.items (listed_more c.loop-call.values.items values.Unknown c.loop-call.invariant tt))
]
