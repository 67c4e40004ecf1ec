use Rattle.std.proofs.Common.{List, None, subst}
use Rattle.std.proofs.lemmas.List.{take_all}
use Rattle.comm_makings.specs.ObjectMakings.{IsMost}
use Rattle.comm_makings.specs.declared.state.Member.{Member}
use Rattle.comm_makings.proofs.ObjectLists.{most_more}
use Rattle.comm_makings.proofs.objects.most_of.Goals as goal

pub loop-member-preserved : goal.loop-member-preserved
loop-member-preserved c =
    most_more c.args.views.now c.args.object c.args.members.now c.loop-member.member-index (record { rank = 0; handle = None }) c.loop-member.most c.makings_count.result c.larger-most.result
    c.loop-member-test.true c.loop-member.invariant c.makings_count.ensures c.larger-most.ensures.first c.larger-most.ensures.second

pub returns : goal.returns
returns c =
    subst (λ (l : List Member). IsMost c.args.views.now c.args.object l c.loop-member.most) (take_all c.loop-member.member-index c.args.members.now c.loop-member-test.false) c.loop-member.invariant
