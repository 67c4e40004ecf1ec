use Rattle.comm_makings.specs.Offers.{AreWanted}
use Rattle.comm_makings.proofs.creates.Offers.add_all.Given as goal

abbrev pub invariant-loop-here : goal.invariant-loop-here
invariant-loop-here l = AreWanted l.values l.comms l.all l.self.groups.items
