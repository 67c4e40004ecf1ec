use Rattle.trace_stuck.proofs.Holds.{monotone}
use Rattle.trace_stuck.proofs.laws.conditions_are_monotone.Goals as goal

pub returns : goal.returns
returns c = λ condition able more. monotone able more condition
