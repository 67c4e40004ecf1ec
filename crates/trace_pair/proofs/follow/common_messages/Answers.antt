use Rattle.std.proofs.Common.{◌≤◌, arith}
use Rattle.std.proofs.lemmas.List.{take_more_same}
use Rattle.mpi_model.specs.declared.message.Message.{Message}
use Rattle.trace_pair.proofs.Fronts.{within_more}
use Rattle.trace_pair.proofs.follow.common_messages.Goals as goal

pub loop-i-preserved : goal.loop-i-preserved
loop-i-preserved c =
    let i = c.loop-i.i in
    let stays = c.does_message_stay.ensures.0 c.if-not-does_message_stay.false in
    record {
      first = omega arith;
      second = omega arith;
      same = take_more_same c.args.a.now c.args.b.now i _ (omega arith) (omega arith) c.loop-i.invariant.same stays.0;
      within = within_more (λ (m : Message). m.name.call ≤ c.args.last) c.args.a.now i _ (omega arith) c.loop-i.invariant.within stays.1;
    }
