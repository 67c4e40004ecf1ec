use Rattle.std.proofs.Common.{sym}
use Rattle.trace_diagnosis.proofs.Nearing.{asked_made, asked_passed}
use Rattle.trace_diagnosis.proofs.near.make_for.Goals as goal

pub returns-in_ok-make-in-Some : goal.returns-in_ok-make-in-Some
returns-in_ok-make-in-Some c = asked_made c.args.way c.args.q.now c.in-Some.place (sym c.in-Some.ensures) c.args.shelf.now c.make.new.self c.in_ok-make-in-Some.ensures

pub returns-in-None : goal.returns-in-None
returns-in-None c = asked_passed c.args.way c.args.q.now c.args.shelf.now (sym c.in-None.ensures)
