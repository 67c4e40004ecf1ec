use Rattle.std.proofs.Common.{take}
use Rattle.comm_makings.specs.ObjectMakings.{IsFirstHere}
use Rattle.comm_makings.proofs.objects.first_here.Given as goal

abbrev pub invariant-loop-here : goal.invariant-loop-here
invariant-loop-here l = IsFirstHere (take l.here-index l.all) l.first
