use Rattle.std.proofs.Common.{subst, List}
use Rattle.mpi_model.specs.declared.message.Message.{Message}
use Rattle.trace_pair.specs.Groups.{members}
use Rattle.trace_pair.specs.KeyOrders.{queue_of, lane_of}
use Rattle.trace_pair.specs.Sets.{AddsTo}
use Rattle.trace_pair.proofs.Orders.{exact_lanes, exact_messages, exact_queues, lanes_total, messages_total, queues_total}
use Rattle.trace_pair.proofs.Members.{adds}
use Rattle.trace_pair.proofs.Twice.{twice_same, twice_more, twice_undone}
use Rattle.trace_pair.proofs.queues.Messages.insert.Goals as goal

pub invariant_of-self : goal.invariant_of-self
invariant_of-self c = twice_same queues_total exact_queues lanes_total exact_lanes messages_total exact_messages queue_of lane_of c.self.inside.tagged c.self.inside.lanes c.args.m c.self.invariant _ c.add.ensures.ordered c.in_err-add.ensures.err

pub invariant_of-self-in-Ok : goal.invariant_of-self-in-Ok
invariant_of-self-in-Ok c = twice_more queues_total exact_queues lanes_total exact_lanes messages_total exact_messages queue_of lane_of c.self.inside.tagged c.self.inside.lanes c.args.m c.self.invariant _ _ c.add.ensures.ordered c.add-2.ensures.ordered c.in_ok-add.ensures.ok c.in-Ok.ensures.ok

pub invariant_of-self-in-Err : goal.invariant_of-self-in-Err
invariant_of-self-in-Err c = twice_undone queues_total exact_queues lanes_total exact_lanes messages_total exact_messages queue_of lane_of c.self.inside.tagged c.self.inside.lanes c.args.m c.self.invariant c.add.new.sets c.drop_at.new.sets c.add-2.new.sets c.drop_at-in-Err.new.sets c.drop_at.ensures.ordered c.drop_at-in-Err.ensures.ordered c.in_ok-add.ensures.ok c.in-Err.ensures.err c.drop_at.ensures.dropped c.drop_at-in-Err.ensures.dropped

pub returns-in-Ok : goal.returns-in-Ok
returns-in-Ok c = subst (λ (l : List Message). AddsTo l (members c.add.new.sets) c.args.m) c.self.view_is
    (adds queues_total exact_queues messages_total exact_messages c.self.inside.tagged c.add.new.sets c.self.invariant.first_ordered c.add.ensures.ordered _ c.args.m c.in_ok-add.ensures.ok)
