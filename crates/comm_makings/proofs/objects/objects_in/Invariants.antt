use Rattle.comm_makings.proofs.ObjectLists.{AreFirst}
use Rattle.comm_makings.proofs.objects.objects_in.Given as goal

abbrev pub invariant-loop-k : goal.invariant-loop-k
invariant-loop-k l = AreFirst l.ranks l.views l.object l.comm l.listed.items l.k
