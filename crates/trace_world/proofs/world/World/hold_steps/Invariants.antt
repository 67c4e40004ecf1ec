use Rattle.std.proofs.Common.{ℕ, take, List}
use Rattle.trace_world.specs.Possible.{Allows}
use Rattle.trace_world.specs.Refusals.{SameNodes}
use Rattle.trace_world.specs.Shows.{Follows, WorldState}
use Rattle.trace_world.specs.declared.step.Step.{Step}
use Rattle.trace_world.proofs.world.World.hold_steps.Given as goal

-- what holds after so many steps
pub record Held (old : WorldState) (steps : List Step) (k : ℕ) (new : WorldState) : Type 0 where
  pub follows : Follows old (take k steps) new
  pub same : SameNodes old new
  pub could : Allows old (take k steps)

abbrev pub invariant-loop-i : goal.invariant-loop-i
invariant-loop-i l = Held l.fn.self l.steps l.i l.self
