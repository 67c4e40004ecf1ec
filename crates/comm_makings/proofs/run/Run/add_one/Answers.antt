use Rattle.std.proofs.Common.{rules, ◌≡◌, length}
use Rattle.comm_makings.proofs.Right.{right_added}
use Rattle.comm_makings.proofs.run.Run.add_one.Goals as goal

pub returns-clause-right : goal.returns-clause-right
returns-clause-right c =
    let count : c.len.result ≡ length c.args.self.now.comms.items = search rules in
    let names = rw count at (rw c.deref.ensures.value at c.bind.ensures) in
    rw (c.in_ok-push.ensures.items, c.in_ok-push-2.ensures.items)
    (right_added c.args.ranks.now c.args.views.now c.args.self.now.standings.items c.bind.new.standings.items c.args.self.now.values.items c.args.self.now.comms.items
    c.args.self.now.next.items c.args.self.now.inters.items c.args.comm c.requires.right names c.requires.comm)
