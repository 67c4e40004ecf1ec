use Rattle.trace_world.proofs.Answers.{fresh}
use Rattle.trace_world.proofs.Following.{still}
use Rattle.trace_world.proofs.world.World.refresh.Goals as goal

pub returns-clause-shown : goal.returns-clause-shown
returns-clause-shown c = rw (← c.self.view_is) (still _ _ _ _ _ c.refresh.ensures.knows)

pub returns-clause-answers : goal.returns-clause-answers
returns-clause-answers c = rw (← c.self.view_is) (fresh _ _ _ _ c.refresh.ensures.ok c.refresh.ensures.err)
