use Rattle.std.proofs.Common.{arith}
use Rattle.std.proofs.lemmas.List.{take_more_same}
use Rattle.mpi_model.specs.declared.message.Receive.{Receive}
use Rattle.trace_pair.specs.Fronts.{IsEndedBy}
use Rattle.trace_pair.proofs.Fronts.{within_more}
use Rattle.trace_pair.proofs.follow.common_receives.Goals as goal

pub loop-i-preserved : goal.loop-i-preserved
loop-i-preserved c =
    let i = c.loop-i.i in
    let stays = c.does_receive_stay.ensures.0 c.if-not-does_receive_stay.false in
    record {
      first = omega arith;
      second = omega arith;
      same = take_more_same c.args.a.now c.args.b.now i _ (omega arith) (omega arith) c.loop-i.invariant.same stays.0;
      within = within_more (λ (q : Receive). IsEndedBy q c.args.last) c.args.a.now i _ (omega arith) c.loop-i.invariant.within stays.1;
    }
