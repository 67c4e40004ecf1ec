use Rattle.std.proofs.Common.{◌≡◌, false}
use Rattle.comm_makings.specs.Offers.{AreKnownTo}
use Rattle.comm_makings.proofs.creates.knows_all.Given as goal

abbrev pub invariant-loop-here : goal.invariant-loop-here
invariant-loop-here l = l.waits ≡ false → AreKnownTo l.values l.comms l.all l.here-index
