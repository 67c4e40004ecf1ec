use Rattle.std.proofs.Common.{◌≡◌, drop}
use Rattle.comm_makings.specs.Here.{first_of}
use Rattle.comm_makings.proofs.here.first_of.Given as goal

abbrev pub invariant-loop-here : goal.invariant-loop-here
invariant-loop-here l = first_of (drop l.here-index l.all) ≡ first_of l.all
