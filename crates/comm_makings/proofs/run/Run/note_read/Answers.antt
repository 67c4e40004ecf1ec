use Rattle.comm_makings.proofs.Right.{right_read}
use Rattle.comm_makings.proofs.run.Run.note_read.Goals as goal

pub returns-then-at-len-clause-right : goal.returns-then-at-len-clause-right
returns-then-at-len-clause-right c =
    right_read c.args.ranks.now c.args.views.now c.args.self.now.standings.items c.args.self.now.values.items c.args.self.now.comms.items c.args.self.now.next.items c.args.self.now.inters.items c.args.at c.args.k
    c.requires.right c.requires.read
