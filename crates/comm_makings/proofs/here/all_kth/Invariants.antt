use Rattle.std.proofs.Common.{◌≡◌, map, take}
use Rattle.comm_makings.specs.Here.{kth_at}
use Rattle.comm_makings.proofs.here.all_kth.Given as goal

abbrev pub invariant-loop-member : goal.invariant-loop-member
invariant-loop-member l = l.all.items ≡ map (kth_at l.ranks l.views l.k) (take l.member-index l.members)
