use Rattle.comm_makings.specs.State.{NamesInter}
use Rattle.comm_makings.proofs.run.bind_inter.Given as goal

abbrev pub invariant-loop-at : goal.invariant-loop-at
invariant-loop-at l = NamesInter l.members l.size l.place l.initial.standings.items l.standings.items
