use Rattle.std.proofs.Common.{take}
use Rattle.comm_makings.specs.ObjectMakings.{IsMost}
use Rattle.comm_makings.proofs.objects.most_of.Given as goal

abbrev pub invariant-loop-member : goal.invariant-loop-member
invariant-loop-member l = IsMost l.views l.object (take l.member-index l.members) l.most
