use Rattle.std.proofs.Common.{◌∙◌, ◌+◌, ◌<◌, ℕ, List, ap, arith, get_or, length}
use Rattle.std.proofs.lemmas.Option.{slice_get-get_or}
use Rattle.comm_makings.proofs.GroupCalls.{adds_length, own_more}
use Rattle.comm_makings.proofs.by_groups.offer_all.Goals as goal

pub returns-then-is_unreadable : goal.returns-then-is_unreadable
returns-then-is_unreadable c =
    let list : List ℕ = c.calls_of-at-items.result.now in
    let below : c.loop-at.at-index < length list = omega arith in
    let named = rw c.deref-in-loop-at.ensures.value at (rw c.deref.ensures.value at c.in-Known.ensures) in
    own_more c.args.ranks.now c.args.views.now c.args.run.now.values.items c.args.run.now.comms.items c.args.member c.args.place list c.loop-at.at-index
    (get_or list c.loop-at.at-index 0) c.in-Known.named c.loop-at.own.items c.add_call.new.own.items c.loop-at.invariant.are c.loop-at.invariant.many
    c.calls_of-at-items.ensures (slice_get-get_or list c.loop-at.at-index 0 below) named c.in_ok-add_call-in-Known.ensures

pub loop-at-preserved : goal.loop-at-preserved
loop-at-preserved c =
    let list : List ℕ = c.calls_of-at-items.result.now in
    let below : c.loop-at.at-index < length list = omega arith in
    let named = rw c.deref-in-loop-at.ensures.value at (rw c.deref.ensures.value at c.in-Known.ensures) in
    let longer = adds_length c.loop-at.own.items c.add_call.new.own.items c.in-Known.named c.args.place c.in_ok-add_call-in-Known.ensures in
    record {
      many = longer ∙ ap (λ (n : ℕ). n + 1) c.loop-at.invariant.many;
      are = own_more c.args.ranks.now c.args.views.now c.args.run.now.values.items c.args.run.now.comms.items c.args.member c.args.place list c.loop-at.at-index
          (get_or list c.loop-at.at-index 0) c.in-Known.named c.loop-at.own.items c.add_call.new.own.items c.loop-at.invariant.are c.loop-at.invariant.many
          c.calls_of-at-items.ensures (slice_get-get_or list c.loop-at.at-index 0 below) named c.in_ok-add_call-in-Known.ensures;
    }
