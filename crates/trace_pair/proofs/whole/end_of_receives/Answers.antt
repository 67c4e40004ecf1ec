use Rattle.std.proofs.Common.{arith}
use Rattle.std.proofs.lemmas.Option.{slice_get-get_or}
use Rattle.trace_pair.proofs.Wholes.{whole_where, range_more, posted_called}
use Rattle.trace_pair.proofs.whole.end_of_receives.Goals as goal

pub loop-end-preserved : goal.loop-end-preserved
loop-end-preserved c =
    let w = c.loop-end.invariant in
    record {
      low = omega arith;
      high = omega arith;
      one = range_more (λ q. q.name.call) c.args.calls.now c.args.start c.loop-end.end _ _ (omega arith) (omega arith) w.one c.if-calls-end.true;
    }

pub returns-else-calls-end-clause-whole : goal.returns-else-calls-end-clause-whole
returns-else-calls-end-clause-whole c = λ o.
    whole_where (λ q. q.name.call) c.args.calls.now c.args.start c.loop-end.end _ _ (posted_called c.args.calls.now o) c.loop-end.invariant.low
    (slice_get-get_or c.args.calls.now c.args.start _ c.requires) (slice_get-get_or c.args.calls.now c.loop-end.end _ c.loop-end-test.true) c.loop-end.invariant.one c.if-calls-end.false
