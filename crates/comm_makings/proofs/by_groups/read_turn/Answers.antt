use Rattle.std.proofs.Common.{arith, subst}
use Rattle.std.proofs.lemmas.Grind.{common_steps}
use Rattle.comm_makings.specs.ByGroups.{IsTurnOf}
use Rattle.comm_makings.proofs.GroupCalls.{found_turn}
use Rattle.comm_makings.proofs.OfferLemmas.{places_are}
use Rattle.comm_makings.proofs.by_groups.read_turn.Goals as goal

pub returns-in-Made-clause-made : goal.returns-in-Made-clause-made
returns-in-Made-clause-made c =
    let made = subst (IsTurnOf c.args.calls.now c.args.parent.now.members.items c.deref-2.result.now) c.in-Made.is c.in_ok-comm.ensures in
    found_turn c.args.calls.now c.args.parent.now.members.items c.args.parent.now.ranks.items c.args.first.ranks.now c.deref-2.result.now c.args.first.tag c.args.first.turn
    c.in-Made.all.items c.in-Made.comm c.requires.same
    (places_are _ c.args.parent.now.ranks.items c.deref-2.result.now c.args.first.ranks.now c.requires.ranked (grind (arith, common_steps))) made.0 made.1 made.2
