use Rattle.trace_diagnosis.proofs.starved.Front.turn_to.Goals as goal

pub returns-clause-front : goal.returns-clause-front
returns-clause-front c = λ ops lists front. c.before-2.ensures.front ops lists
