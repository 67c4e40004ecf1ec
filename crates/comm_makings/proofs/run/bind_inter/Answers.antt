use Rattle.std.proofs.Common.{None, get_or, nat_le, refl}
use Rattle.std.proofs.lemmas.Option.{slice_get-get_or}
use Rattle.comm_makings.specs.declared.state.Member.{Member}
use Rattle.comm_makings.proofs.Sides.{names_inter_bound, names_inter_none}
use Rattle.comm_makings.proofs.run.bind_inter.Goals as goal

pub loop-at-init : goal.loop-at-init
loop-at-init c = names_inter_none c.args.members.now c.args.size c.args.place c.args.standings.now.items

pub loop-at-preserved : goal.loop-at-preserved
loop-at-preserved c =
    let d : Member = record { rank = 0; handle = None } in
    names_inter_bound c.args.members.now c.args.size c.args.place c.args.standings.now.items c.loop-at.standings.items c.bind_side.new.standings.items c.loop-at.at
    (get_or c.args.members.now c.loop-at.at d) (nat_le c.args.size c.loop-at.at) c.loop-at.invariant c.bind_side.ensures
    (slice_get-get_or c.args.members.now c.loop-at.at d c.loop-at-test.true) refl
