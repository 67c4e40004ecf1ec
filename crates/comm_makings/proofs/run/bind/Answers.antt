use Rattle.std.proofs.Common.{None, get_or}
use Rattle.std.proofs.lemmas.Option.{slice_get-get_or}
use Rattle.comm_makings.specs.declared.state.Member.{Member}
use Rattle.comm_makings.proofs.Standings.{names_bound, names_none}
use Rattle.comm_makings.proofs.run.bind.Goals as goal

pub loop-member-init : goal.loop-member-init
loop-member-init c = names_none c.args.members.now c.args.place c.args.standings.now.items

pub loop-member-preserved : goal.loop-member-preserved
loop-member-preserved c =
    let d : Member = record { rank = 0; handle = None } in
    names_bound c.args.members.now c.args.place c.args.standings.now.items c.loop-member.standings.items c.bind_member.new.standings.items c.loop-member.member-index
    (get_or c.args.members.now c.loop-member.member-index d) c.loop-member.invariant c.bind_member.ensures
    (slice_get-get_or c.args.members.now c.loop-member.member-index d c.loop-member-test.true)
