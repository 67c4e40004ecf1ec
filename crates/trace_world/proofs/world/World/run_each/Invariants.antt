use Rattle.std.proofs.Common.{ℕ, take, List}
use Rattle.trace_world.specs.Answers.{AreAnswered}
use Rattle.trace_world.specs.Possible.{Allows}
use Rattle.trace_world.specs.Refusals.{NoneStaler, SameNodes}
use Rattle.trace_world.specs.Shows.{Follows, WorldState}
use Rattle.trace_world.specs.declared.step.Step.{Step}
use Rattle.trace_world.proofs.world.World.run_each.Given as goal

-- what holds after so many steps
pub record Ran (old : WorldState) (steps : List Step) (k : ℕ) (new : WorldState) : Type 0 where
  pub follows : Follows old (take k steps) new
  pub fresh : NoneStaler old.nodes new.nodes
  pub answered : AreAnswered (take k steps) new.nodes
  pub same : SameNodes old new
  pub could : Allows old (take k steps)

abbrev pub invariant-loop-k : goal.invariant-loop-k
invariant-loop-k l = Ran l.fn.self l.steps l.k l.self
