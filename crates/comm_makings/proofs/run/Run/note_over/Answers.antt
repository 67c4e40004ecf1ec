use Rattle.comm_makings.proofs.Right.{right_over}
use Rattle.comm_makings.proofs.run.Run.note_over.Goals as goal

pub returns-then-at-len : goal.returns-then-at-len
returns-then-at-len c =
    right_over c.args.ranks.now c.args.views.now c.args.self.now.standings.items c.args.self.now.values.items c.args.self.now.comms.items c.args.self.now.next.items c.args.self.now.inters.items c.args.at c.requires
