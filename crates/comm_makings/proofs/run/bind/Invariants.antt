use Rattle.comm_makings.specs.State.{NamesMembers}
use Rattle.comm_makings.proofs.run.bind.Given as goal

abbrev pub invariant-loop-member : goal.invariant-loop-member
invariant-loop-member l = NamesMembers l.members l.place l.initial.standings.items l.standings.items
