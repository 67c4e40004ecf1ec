use Rattle.std.proofs.Common.{◌+◌, ◌++◌, [], length, refl, arith}
use Rattle.trace_ops.specs.Calls.{calls_of}
use Rattle.trace_ops.specs.RankOps.{ops_by}
use Rattle.trace_ops.specs.Steps.{steps_from}
use Rattle.trace_ops.proofs.Coming.{message_ahead, message_comes, receive_ahead, receive_comes}
use Rattle.trace_ops.proofs.Entering.{goes_on, rounds_later, rounds_stay}
use Rattle.trace_ops.proofs.Going.{steps_go}
use Rattle.trace_ops.proofs.Owned.{all_own, own_of}
use Rattle.trace_ops.proofs.Rising.{steps_rise}
use Rattle.trace_ops.proofs.Telling.{sends_more, receives_more}
use Rattle.trace_ops.proofs.Within.{below_of, received_within, sent_within}
use Rattle.trace_ops.proofs.laws.ops_laws.Goals as goal

pub returns-clause-own : goal.returns-clause-own
returns-clause-own c = own_of

pub returns-clause-all : goal.returns-clause-all
returns-clause-all c layout view = all_own layout view 0 layout.ranks

pub returns-clause-grow : goal.returns-clause-grow
unfolding ops_by
returns-clause-grow c layout rank one other events more =
    let go = steps_go [] (calls_of events) (calls_of (events ++ more)) (goes_on events more) in
    let below = below_of (0 + length (calls_of events)) (steps_from [] (calls_of events)) (steps_from [] (calls_of (events ++ more))) go in
    let old = steps_from [] (calls_of events) in
    let new = steps_from [] (calls_of (events ++ more)) in
    let rise = steps_rise [] (calls_of events) in
    let sent = message_ahead layout rank (0 + length (calls_of events)) 0 0 old new rise go in
    let posted = receive_ahead layout rank (0 + length (calls_of events)) 0 0 old new rise go in
    let sends = message_comes layout rank (0 + length (calls_of events)) 0 0 old new rise go in
    let receives = receive_comes layout rank (0 + length (calls_of events)) 0 0 old new rise go in
    record {
      sends = sends_more layout rank (0 + length (calls_of events)) (steps_from [] (calls_of events)) (steps_from [] (calls_of (events ++ more))) go;
      receives = receives_more layout rank (0 + length (calls_of events)) (steps_from [] (calls_of events)) (steps_from [] (calls_of (events ++ more))) go;
      rounds = rounds_stay layout rank (calls_of events) (calls_of (events ++ more)) (goes_on events more);
      comms = refl;
      later = record {
        send_behind_sends = λ m n i j. sent m i n.name.call (sends n j);
        send_behind_receives = λ q n i j. posted q i n.name.call (sends n j);
        receive_behind_sends = λ m r i j. sent m i r.name.call (receives r j);
        receive_behind_receives = λ q r i j. posted q i r.name.call (receives r j);
      };
      behind_ends = λ q e x i is j.
          let lt = received_within layout rank (0 + length (calls_of events)) (steps_from [] (calls_of events)) below q i e is in
          let le = rounds_later layout rank (calls_of events) (calls_of (events ++ more)) (goes_on events more) x j in
          omega (arith, lt, le);
      behind_sends = λ m x i j.
          let lt = sent_within layout rank (0 + length (calls_of events)) (steps_from [] (calls_of events)) below m i in
          let le = rounds_later layout rank (calls_of events) (calls_of (events ++ more)) (goes_on events more) x j in
          omega (arith, lt, le);
    }
