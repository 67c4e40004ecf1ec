use Rattle.comm_makings.specs.ByGroups.{AreSomeOf}
use Rattle.comm_makings.proofs.by_groups.only_at.Given as goal

abbrev pub invariant-loop-place : goal.invariant-loop-place
invariant-loop-place l = AreSomeOf l.all l.only.items
