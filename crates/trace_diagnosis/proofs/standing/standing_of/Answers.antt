use Rattle.std.proofs.Common.{◌≡◌, ◌∙◌, Bool, ap}
use Rattle.trace_ops.specs.Ops.{Ops}
use Rattle.trace_wait.specs.Ranks.{ops_of}
use Rattle.trace_diagnosis.specs.Standing.{stands_at, stands_by, stands_told}
use Rattle.trace_diagnosis.proofs.Lists.{range_step}
use Rattle.trace_diagnosis.proofs.standing.standing_of.Goals as goal

pub loop-rank-preserved : goal.loop-rank-preserved
loop-rank-preserved c =
    let n = c.loop-rank.rank in
    let f = stands_at c.args.know.now c.args.ops.now c.args.cut.now in
    let is : stands_told c.in_ok-standing.standing ≡ f n
    = c.in_ok-standing.ensures
    ∙ ap (λ (o : Ops). stands_by o.state c.args.know.now n c.is_up-is_cut.result) c.ops_at.ensures
    ∙ ap (λ (b : Bool). stands_by (ops_of c.args.ops.now n).state c.args.know.now n b) c.is_up-is_cut.ensures in
    range_step stands_told f c.loop-rank.all.items _ c.in_ok-standing.standing n c.in_ok-push.ensures.items c.loop-rank.invariant is
