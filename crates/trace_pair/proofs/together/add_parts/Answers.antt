use Rattle.std.proofs.Common.{◌≡◌, ◌+◌, ℕ, List, ◌∙◌, ap, arith, length, subst}
use Rattle.trace_ops.specs.Ops.{Ops}
use Rattle.trace_pair.specs.After.{comes_after}
use Rattle.trace_pair.specs.Followed.{FollowsBy, Moves}
use Rattle.trace_pair.specs.Parts.{begun}
use Rattle.trace_pair.proofs.Parts.{one_ahead, next_ahead, ahead_all}
use Rattle.trace_pair.proofs.together.add_parts.Goals as goal

pub loop-own-preserved : goal.loop-own-preserved
loop-own-preserved c = λ a single x.
    let law = subst (λ (os : List Ops). Moves (comes_after os) (begun c.args.parts c.args.done c.own-item.result) (begun c.args.parts (c.args.done + 1) c.own-item.result) c.loop-own.state c.add_part.new.state)
    c.new-reaches.ensures c.in_ok-add_part.ensures in
    next_ahead c.args.parts c.args.done (comes_after c.args.ops.now) c.args.ops.now c.loop-own.own-index c.own-item.result c.loop-own.state c.add_part.new.state c.loop-own-test.true a single c.own-item.is law (c.loop-own.invariant a single x)

pub returns : goal.returns
returns c = λ a single x.
    let n : c.loop-own.own-index ≡ length c.args.ops.now = omega arith in
    subst (λ (held : List Ops). FollowsBy (comes_after c.args.ops.now) held c.loop-own.state)
    (ap (λ (k : ℕ). one_ahead c.args.parts c.args.done k c.args.ops.now) n ∙ ahead_all c.args.parts c.args.done c.args.ops.now) (c.loop-own.invariant a single x)
