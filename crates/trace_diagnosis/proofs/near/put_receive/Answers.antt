use Rattle.std.proofs.Common.{sym}
use Rattle.trace_diagnosis.proofs.Nearing.{receive_passed, receive_put}
use Rattle.trace_diagnosis.proofs.near.put_receive.Goals as goal

pub returns-in_ok-put-in-Some : goal.returns-in_ok-put-in-Some
returns-in_ok-put-in-Some c = receive_put c.args.way c.args.q.now c.in-Some.place (sym c.in-Some.ensures) c.args.at c.args.shelf.now c.make.new.self c.put.new.self c.in_ok-make-in-Some.ensures c.in_ok-put-in-Some.ensures

pub returns-in-None : goal.returns-in-None
returns-in-None c = receive_passed c.args.way c.args.q.now c.args.at c.args.shelf.now (sym c.in-None.ensures)
