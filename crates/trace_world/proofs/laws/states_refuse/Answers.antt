use Rattle.trace_world.proofs.Possible.{alike}
use Rattle.trace_world.proofs.laws.states_refuse.Goals as goal

pub returns : goal.returns
returns c = alike
