use Rattle.std.proofs.Common.{◌≡◌, ℕ, List, [], arith, subst}
use Rattle.trace_ops.specs.Ops.{Ops}
use Rattle.trace_pair.specs.After.{comes_after}
use Rattle.trace_pair.specs.Followed.{FollowsBy}
use Rattle.trace_pair.specs.Parts.{all_begun}
use Rattle.trace_pair.proofs.Parts.{none_begun, all_whole}
use Rattle.trace_pair.proofs.together.add_ranks.Goals as goal

pub loop-done-init : goal.loop-done-init
loop-done-init c = λ a single x. none_begun (comes_after c.args.ops.now) c.count_parts-parts.result c.args.ops.now c.reserve_ranks.new.state (c.reserve_ranks.ensures (comes_after c.args.ops.now) [] [] x)

pub returns : goal.returns
returns c = λ a single x.
    let parts = c.count_parts-parts.result in
    let n : c.loop-done.done ≡ parts = omega arith in
    subst (λ (held : List Ops). FollowsBy (comes_after c.args.ops.now) held c.loop-done.state) (all_whole parts c.args.ops.now c.count_parts-parts.ensures)
    (subst (λ (k : ℕ). FollowsBy (comes_after c.args.ops.now) (all_begun parts k c.args.ops.now) c.loop-done.state) n (c.loop-done.invariant a single x))
