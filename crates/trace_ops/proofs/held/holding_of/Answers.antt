use Rattle.std.proofs.Common.{◌≡◌, ◌<◌, List, length, reverse, take, arith, ap, sym, ◌∙◌, subst, ◌++◌, map}
use Rattle.std.specs.Ordering.{int_eq}
use Rattle.indexmap.specs.IndexMap.{get}
use Rattle.trace_ops.specs.Calls.{Entry}
use Rattle.trace_ops.specs.Held.{Holds}
use Rattle.trace_ops.specs.Request.{started_by}
use Rattle.trace_ops.proofs.Behind.{read_there}
use Rattle.trace_ops.proofs.Holding.{before_count, before_more, listed_more}
use Rattle.trace_ops.proofs.held.holding_of.Goals as goal

pub loop-n-preserved : goal.loop-n-preserved
loop-n-preserved c =
    let calls = c.args.calls.now in
    let n = c.loop-n.n in
    let lt : c.loop-n.n < length c.args.calls.now = omega arith in
    let entry = c.call_at-call.ensures.0 in
    let at = read_there calls n entry c.call_at-call.ensures.1 in
    let old = get int_eq c.loop-n.held in
    let pushed : c.push_held.new.inits.items ≡ c.loop-n.inits.items ++ map (get int_eq c.loop-n.held) (started_by entry.call) =
    c.in_ok-push_held.ensures ∙ ap (λ (l : List _). c.loop-n.inits.items ++ map (get int_eq c.loop-n.held) l) (c.started_by.ensures ∙ ap started_by (sym c.call_at-call.ensures.2)) in
    let held = c.in_ok-hold.ensures entry c.call_at-call.ensures.1 (reverse (take n calls)) (before_count calls n c.loop-n.invariant.within) c.loop-n.invariant.held in
    record {
      within = omega arith;
      listed = listed_more calls n entry old c.loop-n.inits.items c.push_held.new.inits.items lt at pushed c.loop-n.invariant.held c.loop-n.invariant.listed;
      held = subst (λ (l : List Entry). Holds l (get int_eq c.hold.new.held)) (sym (before_more calls n entry lt at)) held;
    }
