use Rattle.comm_makings.specs.ByGroups.{AreSameTo}
use Rattle.comm_makings.proofs.by_groups.same_length.Given as goal

abbrev pub invariant-loop-at : goal.invariant-loop-at
invariant-loop-at l = AreSameTo l.calls l.first.ranks.now l.first.tag l.first.turn l.at
