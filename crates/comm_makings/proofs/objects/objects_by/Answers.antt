use Rattle.std.proofs.Common.{get_or, subst, take}
use Rattle.std.proofs.lemmas.List.{take_more}
use Rattle.comm_makings.specs.ObjectMakings.{AreObjectsOf}
use Rattle.comm_makings.specs.declared.state.Made.{Made}
use Rattle.comm_makings.proofs.ObjectLists.{all_more}
use Rattle.comm_makings.proofs.objects.objects_by.Goals as goal

pub loop-comm-preserved : goal.loop-comm-preserved
loop-comm-preserved c =
    rw (take_more c.args.comms.now c.loop-comm.comm-index c.comm-item.result c.loop-comm-test.true)
    (rw c.in_ok-append.ensures.items
    (all_more c.args.ranks.now c.args.views.now c.args.object (take c.loop-comm.comm-index c.args.comms.now) (get_or c.args.comms.now c.loop-comm.comm-index c.comm-item.result)
    c.loop-comm.listed.items c.in_ok-of_comm.of_comm.items c.loop-comm.invariant
    (subst (λ (x : Made). AreObjectsOf c.args.ranks.now c.args.views.now c.args.object x c.in_ok-of_comm.of_comm.items) c.comm-item.is c.in_ok-of_comm.ensures)))
