use Rattle.std.proofs.Common.{sym, subst, List}
use Rattle.mpi_model.specs.declared.message.Receive.{Receive}
use Rattle.trace_pair.specs.Groups.{members}
use Rattle.trace_pair.specs.KeyOrders.{receive_key_of}
use Rattle.trace_pair.specs.Queues.{AreGrouped}
use Rattle.trace_pair.specs.Sets.{AddsTo}
use Rattle.trace_pair.specs.declared.queues.Kinds.{Kinds}
use Rattle.trace_pair.proofs.Orders.{receive_keys_total, exact_receive_keys, receives_total, exact_receives}
use Rattle.trace_pair.proofs.Members.{adds}
use Rattle.trace_pair.proofs.Queued.{grouped_same, grouped_more}
use Rattle.trace_pair.proofs.opened.Opened.insert.Goals as goal

pub invariant_of-self : goal.invariant_of-self
invariant_of-self c = subst (λ (k : Kinds). AreGrouped k c.add.new.lanes) (sym c.marked-self-inside.ensures)
    (grouped_same c.self.inside.kinds c.self.inside.lanes c.add.new.lanes c.self.invariant c.add.ensures.ordered c.args.q.source c.args.q.tag c.in_err-add.ensures.err)

pub invariant_of-self-2 : goal.invariant_of-self-2
invariant_of-self-2 c = subst (λ (k : Kinds). AreGrouped k c.add.new.lanes) (sym c.marked-self-inside.ensures)
    (grouped_more c.self.inside.kinds c.self.inside.lanes c.add.new.lanes c.self.invariant c.add.ensures.ordered c.args.q c.in_ok-add.ensures.ok)

pub returns : goal.returns
returns c = subst (λ (l : List Receive). AddsTo l (members c.add.new.lanes) c.args.q) c.self.view_is
    (adds receive_keys_total exact_receive_keys receives_total exact_receives c.self.inside.lanes c.add.new.lanes c.self.invariant.ordered c.add.ensures.ordered (receive_key_of c.args.q) c.args.q c.in_ok-add.ensures.ok)
