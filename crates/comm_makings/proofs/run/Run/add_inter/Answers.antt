use Rattle.std.proofs.Common.{rules, ◌≡◌, length}
use Rattle.comm_makings.proofs.Sides.{right_joined}
use Rattle.comm_makings.proofs.run.Run.add_inter.Goals as goal

pub returns : goal.returns
returns c =
    let count : c.len.result ≡ length c.args.self.now.inters.items = search rules in
    let names = rw c.first_size-size.ensures.value at (rw count at (rw c.deref.ensures.value at c.bind_inter.ensures)) in
    rw c.in_ok-push.ensures.items
    (right_joined c.args.ranks.now c.args.views.now c.args.self.now.standings.items c.bind_inter.new.standings.items c.args.self.now.values.items c.args.self.now.comms.items
    c.args.self.now.next.items c.args.self.now.inters.items c.args.inter c.requires.right names c.requires.inter)
