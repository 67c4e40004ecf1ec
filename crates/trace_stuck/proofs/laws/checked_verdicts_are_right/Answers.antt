use Rattle.trace_stuck.proofs.Checks.{verdict_right}
use Rattle.trace_stuck.proofs.laws.checked_verdicts_are_right.Goals as goal

pub returns : goal.returns
returns c = verdict_right
