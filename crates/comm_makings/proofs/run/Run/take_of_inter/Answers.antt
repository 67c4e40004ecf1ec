use Rattle.comm_makings.proofs.Right.{right_left}
use Rattle.comm_makings.proofs.run.Run.take_of_inter.Goals as goal

pub returns-in-Untold : goal.returns-in-Untold
returns-in-Untold c =
    right_left c.args.ranks.now c.args.views.now c.args.self.now.standings.items c.leave.new.standings.items c.args.self.now.values.items c.args.self.now.comms.items
    c.args.self.now.next.items c.args.self.now.inters.items c.requires.right c.leave.ensures

pub returns-in-Unsound : goal.returns-in-Unsound
returns-in-Unsound c =
    right_left c.args.ranks.now c.args.views.now c.args.self.now.standings.items c.leave-in-Unsound.new.standings.items c.args.self.now.values.items c.args.self.now.comms.items
    c.args.self.now.next.items c.args.self.now.inters.items c.requires.right c.leave-in-Unsound.ensures
