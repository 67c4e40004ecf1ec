use Rattle.trace_stuck.proofs.Noted.{noted_already}
use Rattle.trace_stuck.proofs.askers.note.Goals as goal

pub returns-then-is_last_noted : goal.returns-then-is_last_noted
returns-then-is_last_noted c = noted_already c.args.askers.now c.args.s c.args.r (c.is_last_noted.ensures c.if-is_last_noted.true)
