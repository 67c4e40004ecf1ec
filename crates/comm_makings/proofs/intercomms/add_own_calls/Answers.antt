use Rattle.std.proofs.Common.{◌∷◌, [], None, arith, get_or, length-append, refl}
use Rattle.std.proofs.lemmas.Option.{slice_get-get_or}
use Rattle.comm_makings.specs.declared.state.Member.{Member}
use Rattle.comm_makings.proofs.Joins.{own_more, own_none}
use Rattle.comm_makings.proofs.intercomms.add_own_calls.Goals as goal

pub loop-member-init : goal.loop-member-init
loop-member-init c = record {
  calls = rw c.requires (own_none c.args.ranks.now c.args.views.now c.args.members.now);
  counted = rw c.requires refl;
}

pub loop-member-preserved : goal.loop-member-preserved
loop-member-preserved c =
    let d : Member = record { rank = 0; handle = None } in
    record {
      calls = rw c.in_ok-push.ensures.items
          (own_more c.args.ranks.now c.args.views.now c.args.members.now c.loop-member.all.items c.loop-member.member-index (get_or c.args.members.now c.loop-member.member-index d)
          c.own_call.result c.loop-member.invariant.calls c.loop-member.invariant.counted (slice_get-get_or c.args.members.now c.loop-member.member-index d c.loop-member-test.true)
          c.own_call.ensures);
      counted = rw c.in_ok-push.ensures.items (omega (arith, length-append c.loop-member.all.items (c.own_call.result ∷ []), c.loop-member.invariant.counted));
    }
