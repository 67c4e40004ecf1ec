use Rattle.comm_makings.proofs.Marks.{AreCoveredTo}
use Rattle.comm_makings.proofs.outcomes.cover_all.Given as goal

abbrev pub invariant-loop-part : goal.invariant-loop-part
invariant-loop-part l = AreCoveredTo l.covered.items l.initial.covered.items l.parts l.part-index
