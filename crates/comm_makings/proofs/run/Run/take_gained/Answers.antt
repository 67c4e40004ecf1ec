use Rattle.std.proofs.Common.{◌+◌}
use Rattle.comm_makings.proofs.Right.{gained_added, gained_now, right_left}
use Rattle.comm_makings.proofs.run.Run.take_gained.Goals as goal

pub returns-in_ok-add-in-Comms-clause-read : goal.returns-in_ok-add-in-Comms-clause-read
returns-in_ok-add-in-Comms-clause-read c = λ e.
    gained_added c.args.ranks.now c.args.views.now c.args.self.now.comms.items c.add.new.self.comms.items c.args.at (c.args.k + 1) c.args.gained c.in-Comms.made
    c.requires.read c.in-Comms.is c.in_ok-add-in-Comms.ensures.keeps

pub returns-in-Untold-clause-right : goal.returns-in-Untold-clause-right
returns-in-Untold-clause-right c =
    right_left c.args.ranks.now c.args.views.now c.args.self.now.standings.items c.leave.new.standings.items c.args.self.now.values.items c.args.self.now.comms.items
    c.args.self.now.next.items c.args.self.now.inters.items c.requires.right c.leave.ensures

pub returns-in-Untold-clause-read : goal.returns-in-Untold-clause-read
returns-in-Untold-clause-read c = λ e.
    gained_now c.args.ranks.now c.args.views.now c.args.self.now.comms.items c.args.at (c.args.k + 1) c.args.gained c.requires.read c.in-Untold.is

pub returns-in-Unsound-clause-right : goal.returns-in-Unsound-clause-right
returns-in-Unsound-clause-right c =
    right_left c.args.ranks.now c.args.views.now c.args.self.now.standings.items c.leave-in-Unsound.new.standings.items c.args.self.now.values.items c.args.self.now.comms.items
    c.args.self.now.next.items c.args.self.now.inters.items c.requires.right c.leave-in-Unsound.ensures
