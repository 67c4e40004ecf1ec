use Rattle.std.proofs.Common.{sym}
use Rattle.trace_diagnosis.proofs.Nearing.{messages_found, none_found}
use Rattle.trace_diagnosis.proofs.near.near_messages.Goals as goal

pub returns-in_ok-found-in-Some : goal.returns-in_ok-found-in-Some
returns-in_ok-found-in-Some c = λ ms xs are asked has. messages_found c.args.way c.args.shelf.now ms xs c.args.q.now c.in-Some.place _ are asked has (sym c.in-Some.ensures) c.in_ok-found-in-Some.ensures

pub returns-in-None : goal.returns-in-None
returns-in-None c = λ ms xs are asked has. none_found c.args.way ms c.args.q.now _ (sym c.in-None.ensures) c.new.ensures.items
