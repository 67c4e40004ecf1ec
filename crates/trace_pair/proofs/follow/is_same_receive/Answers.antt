use Rattle.std.proofs.lemmas.Bool.Decides.{Decides-at}
use Rattle.mpi_model.specs.contracts.message.ReceivePartialEq.TheImpl as receive_eq
use Rattle.trace_pair.proofs.Same.{same_receives}
use Rattle.trace_pair.proofs.follow.is_same_receive.Goals as goal

pub returns : goal.returns
returns c = Decides-at c.eq.result ((receive_eq.ghosts).eq c.args.a.now c.args.b.now) c.eq.ensures (same_receives c.args.a.now c.args.b.now)
