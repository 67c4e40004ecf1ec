use Rattle.std.proofs.Common.{◌∙◌, List, get_or, subst, sym}
use Rattle.trace_ops.specs.Ops.{Ops, no_ops}
use Rattle.trace_pair.specs.After.{communicating}
use Rattle.trace_pair.specs.Reach.{AreReachesOf}
use Rattle.trace_pair.proofs.Reached.{by_table, no_sender, none_there, reach_at, rows_rise}
use Rattle.trace_pair.proofs.reach.Reaches.is_after.Goals as goal

pub returns-in_default-reach_at : goal.returns-in_default-reach_at
returns-in_default-reach_at c =
    let of = subst (λ (l : List Ops). AreReachesOf l c.self.inside.table.now) c.self.view_is c.self.invariant in
    rw c.in-Some.is (no_sender c.args.self.now c.self.inside.table.now of c.args.m.now c.args.at c.in-Some.ended (sym c.is_own.ensures ∙ c.if-is_own.false) c.in_default-reach_at.ensures.none)

pub returns-in_default-reach_at-2 : goal.returns-in_default-reach_at-2
returns-in_default-reach_at-2 c =
    let of = subst (λ (l : List Ops). AreReachesOf l c.self.inside.table.now) c.self.view_is c.self.invariant in
    rw c.in-Some.is (none_there c.args.self.now c.self.inside.table.now of c.args.m.now c.args.at c.in-Some.ended (sym c.is_own.ensures ∙ c.if-is_own.false) c.in_default-reach_at-2.ensures.none)

pub is_passed-requires : goal.is_passed-requires
is_passed-requires c =
    let of = subst (λ (l : List Ops). AreReachesOf l c.self.inside.table.now) c.self.view_is c.self.invariant in
    let sender = reach_at c.args.self.now c.self.inside.table.now c.args.m.now.from c.in-Some-reach_at.sender.now of c.in-Some-reach_at.ensures.some in
    let receiver = reach_at c.args.self.now c.self.inside.table.now c.args.at c.in-Some-reach_at-2.receiver.now of c.in-Some-reach_at-2.ensures.some in
    record { rows = rows_rise (communicating (get_or c.args.self.now c.args.m.now.from no_ops)) c.in-Some-reach_at.sender.now sender; comms = receiver.comms_rise }

pub returns : goal.returns
returns c =
    let of = subst (λ (l : List Ops). AreReachesOf l c.self.inside.table.now) c.self.view_is c.self.invariant in
    rw c.in-Some.is (c.is_passed.ensures
    ∙ by_table c.args.self.now c.self.inside.table.now of c.args.m.now c.args.at c.in-Some.ended (sym c.is_own.ensures ∙ c.if-is_own.false) c.in-Some-reach_at.sender.now c.in-Some-reach_at-2.receiver.now
    c.in-Some-reach_at.ensures.some c.in-Some-reach_at-2.ensures.some)
