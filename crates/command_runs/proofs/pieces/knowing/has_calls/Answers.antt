use Rattle.command_runs.proofs.Traces.{facts_of_one}
use Rattle.command_runs.proofs.pieces.knowing.has_calls.Goals as goal

pub returns-in-Some-clause-some : goal.returns-in-Some-clause-some
returns-in-Some-clause-some c = λ _. facts_of_one c.args.whole.now c.in-Some.piece c.in-Some.is c.known.ensures.some
