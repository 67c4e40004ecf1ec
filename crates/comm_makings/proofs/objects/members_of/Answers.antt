use Rattle.std.proofs.Common.{None}
use Rattle.std.proofs.lemmas.List.{map_more}
use Rattle.comm_makings.specs.ObjectMakings.{made_member}
use Rattle.comm_makings.proofs.objects.members_of.Goals as goal

pub loop-member-preserved : goal.loop-member-preserved
loop-member-preserved c =
    let more = map_more (made_member c.args.ranks.now c.args.views.now c.args.object c.args.k) c.args.members.now c.loop-member.member-index (record { rank = 0; handle = None }) c.loop-member-test.true in
    let pushed = c.in_ok-push.ensures.items in
    cc
