use Rattle.std.proofs.Common.{arith, get_or, subst}
use Rattle.trace_ops.specs.declared.entered.Entered.{Entered}
use Rattle.trace_pair.specs.Fronts.{IsAlike}
use Rattle.trace_pair.proofs.Fronts.{zip_more}
use Rattle.trace_pair.proofs.follow.common_rounds.Goals as goal

pub loop-i-preserved : goal.loop-i-preserved
loop-i-preserved c =
    let i = c.loop-i.i in
    let a = c.index-a-i.result in
    let b = c.index-b-i.result in
    let alike = c.is_alike.ensures.0 c.if-not-is_alike.false in
    record {
      first = omega arith;
      second = omega arith;
      alike = zip_more IsAlike c.args.a.now c.args.b.now i a b (omega arith) (omega arith) c.loop-i.invariant.alike
          (subst (λ (x : Entered). IsAlike x (get_or c.args.b.now i b)) c.index-a-i.is (subst (λ (y : Entered). IsAlike a y) c.index-b-i.is alike));
    }
