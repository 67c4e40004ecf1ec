use Rattle.std.proofs.Common.{◌≡◌, map, take}
use Rattle.comm_makings.specs.ObjectMakings.{object_here}
use Rattle.comm_makings.proofs.objects.all_here.Given as goal

abbrev pub invariant-loop-member : goal.invariant-loop-member
invariant-loop-member l = l.all.items ≡ map (object_here l.ranks l.views l.object l.k) (take l.member-index l.members)
