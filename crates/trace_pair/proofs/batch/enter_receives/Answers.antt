use Rattle.std.proofs.Common.{◌+◌, ◌++◌, take, arith}
use Rattle.trace_pair.proofs.SettlingParts.{absent_part, all_come, apart_come, awaits_none, one_comes, same_there}
use Rattle.trace_pair.proofs.Tabled.{has_at}
use Rattle.trace_pair.proofs.batch.enter_receives.Goals as goal

pub loop-q-init : goal.loop-q-init
loop-q-init c = λ after ms qs more adds apart s. awaits_none after ms qs more c.args.call.now adds c.args.batch.now s

pub loop-q-preserved : goal.loop-q-preserved
loop-q-preserved c = λ after ms qs more adds apart s.
    let call = c.args.call.now in
    let i = c.loop-q.q-index in
    let h = has_at call i _ c.loop-q-test.true in
    c.in_ok-enter_receive.ensures after ms more qs (take i call ++ qs) (take (i + 1) call ++ qs) (one_comes after ms qs more call adds i _ c.loop-q-test.true) (adds.own _ h) (apart_come after ms qs more call adds apart (i + 1))
    (absent_part after ms qs more call adds _ h) (c.loop-q.invariant after ms qs more adds apart s)

pub returns : goal.returns
returns c = λ after ms qs more adds apart s.
    same_there after ms more qs (take c.loop-q.q-index c.args.call.now ++ qs) c.loop-q.batch (c.loop-q.invariant after ms qs more adds apart s) more (all_come after ms qs more c.args.call.now adds c.loop-q.q-index (omega arith))
