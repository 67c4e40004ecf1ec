use Rattle.std.proofs.Common.{◌≡◌, map, take}
use Rattle.comm_makings.specs.ObjectMakings.{made_member}
use Rattle.comm_makings.proofs.objects.members_of.Given as goal

abbrev pub invariant-loop-member : goal.invariant-loop-member
invariant-loop-member l = l.made.items ≡ map (made_member l.ranks l.views l.object l.k) (take l.member-index l.members)
