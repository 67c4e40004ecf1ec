use Rattle.comm_makings.proofs.GroupCalls.{sorted_right}
use Rattle.comm_makings.proofs.by_groups.offers_of.Goals as goal

pub returns : goal.returns
returns c =
    sorted_right c.args.ranks.now c.args.views.now c.args.run.now.values.items c.args.run.now.comms.items c.args.members.now c.offer_members.new.calls.items
    c.sort_by_key.new.self.items c.sort_by_key.ensures.permutation c.in_ok-offer_members.ensures
