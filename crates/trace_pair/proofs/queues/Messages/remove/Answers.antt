use Rattle.std.proofs.Common.{subst, List}
use Rattle.mpi_model.specs.declared.message.Message.{Message}
use Rattle.trace_pair.specs.Groups.{members}
use Rattle.trace_pair.specs.KeyOrders.{queue_of, lane_of}
use Rattle.trace_pair.specs.Sets.{DropsFrom}
use Rattle.trace_pair.proofs.Orders.{exact_lanes, exact_messages, exact_queues, lanes_total, messages_total, queues_total}
use Rattle.trace_pair.proofs.Members.{drops}
use Rattle.trace_pair.proofs.Twice.{twice_less}
use Rattle.trace_pair.proofs.queues.Messages.remove.Goals as goal

pub invariant_of-self : goal.invariant_of-self
invariant_of-self c = twice_less queues_total exact_queues lanes_total exact_lanes messages_total exact_messages queue_of lane_of c.self.inside.tagged c.self.inside.lanes c.args.m.now c.self.invariant _ _ c.drop_at.ensures.ordered c.drop_at-2.ensures.ordered c.drop_at.ensures.dropped c.drop_at-2.ensures.dropped

pub returns : goal.returns
returns c = subst (λ (l : List Message). DropsFrom l (members c.drop_at.new.sets) c.args.m.now) c.self.view_is
    (drops queues_total exact_queues messages_total exact_messages queue_of c.self.inside.tagged c.drop_at.new.sets c.self.invariant.first_ordered c.drop_at.ensures.ordered c.self.invariant.first_placed c.args.m.now c.drop_at.ensures.dropped)
