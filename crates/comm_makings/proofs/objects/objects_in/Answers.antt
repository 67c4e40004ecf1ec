use Rattle.comm_makings.proofs.ObjectLists.{first_all, first_end, first_more}
use Rattle.comm_makings.proofs.objects.objects_in.Goals as goal

pub loop-k-preserved : goal.loop-k-preserved
loop-k-preserved c =
    rw c.in_ok-push-in-Some.ensures.items
    (first_more c.args.ranks.now c.args.views.now c.args.object c.args.comm.now c.loop-k.listed.items c.loop-k.k c.in-Some.made c.loop-k.invariant (rw c.in-Some.is at c.in_ok-kth.ensures))

pub returns-in-None : goal.returns-in-None
returns-in-None c =
    first_end c.args.ranks.now c.args.views.now c.args.object c.args.comm.now c.loop-k.listed.items c.loop-k.k c.loop-k.invariant (rw c.in-None.is at c.in_ok-kth.ensures)

pub returns : goal.returns
returns c =
    first_all c.args.ranks.now c.args.views.now c.args.object c.args.comm.now c.loop-k.listed.items c.loop-k.k c.most_of-k-end.result c.loop-k.invariant
    (rw c.deref.ensures.value at c.most_of-k-end.ensures) c.loop-k-test.false
