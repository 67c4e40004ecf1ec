use Rattle.comm_makings.proofs.Right.{right_left}
use Rattle.comm_makings.proofs.run.Run.join_two.Goals as goal

pub returns-in-Left : goal.returns-in-Left
returns-in-Left c =
    right_left c.args.ranks.now c.args.views.now c.args.self.now.standings.items c.leave.new.standings.items c.args.self.now.values.items c.args.self.now.comms.items
    c.args.self.now.next.items c.args.self.now.inters.items c.requires.right c.leave.ensures
