use Rattle.std.proofs.Common.{subst, List}
use Rattle.mpi_model.specs.declared.message.Receive.{Receive}
use Rattle.trace_pair.specs.Groups.{members}
use Rattle.trace_pair.specs.KeyOrders.{receive_key_of}
use Rattle.trace_pair.specs.Sets.{DropsFrom}
use Rattle.trace_pair.proofs.Orders.{receive_keys_total, exact_receive_keys, receives_total, exact_receives}
use Rattle.trace_pair.proofs.Members.{drops}
use Rattle.trace_pair.proofs.Queued.{grouped_less}
use Rattle.trace_pair.proofs.opened.Opened.remove.Goals as goal

pub invariant_of-self : goal.invariant_of-self
invariant_of-self c = grouped_less c.self.inside.kinds c.self.inside.lanes c.drop_from.new.lanes c.self.invariant c.drop_from.ensures.ordered c.args.q.now c.drop_from.ensures.dropped

pub returns : goal.returns
returns c = subst (λ (l : List Receive). DropsFrom l (members c.drop_from.new.lanes) c.args.q.now) c.self.view_is
    (drops receive_keys_total exact_receive_keys receives_total exact_receives receive_key_of c.self.inside.lanes c.drop_from.new.lanes c.self.invariant.ordered c.drop_from.ensures.ordered c.self.invariant.placed c.args.q.now c.drop_from.ensures.dropped)
