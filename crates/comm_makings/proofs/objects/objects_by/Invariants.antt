use Rattle.std.proofs.Common.{take}
use Rattle.comm_makings.specs.ObjectMakings.{AreObjectsOfAll}
use Rattle.comm_makings.proofs.objects.objects_by.Given as goal

abbrev pub invariant-loop-comm : goal.invariant-loop-comm
invariant-loop-comm l = AreObjectsOfAll l.ranks l.views l.object (take l.comm-index l.comms) l.listed.items
