use Rattle.std.proofs.Common.{◌∙◌, ◌++◌, [], Bool, ap, arith, if◌then◌else◌, length, map}
use Rattle.trace_know.specs.Prefix.{events_of}
use Rattle.trace_diagnosis.specs.Askers.{poller_plain}
use Rattle.trace_diagnosis.specs.Tails.{polling_at, polling_by, polls_from, tail_first}
use Rattle.trace_diagnosis.proofs.Lists.{flat_range_step}
use Rattle.trace_diagnosis.proofs.conditions.pollers_of.Goals as goal

pub loop-rank-preserved : goal.loop-rank-preserved
loop-rank-preserved c =
    let n = c.loop-rank.rank in
    let events = events_of c.args.know.now n in
    record {
      there = c.in_ok-push_poller.ensures.there (length c.args.ops.now) (omega arith) c.loop-rank.invariant.there;
      polls = flat_range_step poller_plain (polling_at c.args.know.now c.args.ops.now c.args.cut.now) c.loop-rank.pollers.items _ n
          (c.in_ok-push_poller.ensures.polls
          ∙ ap (λ (b : Bool). map poller_plain c.loop-rank.pollers.items ++ (if b then polling_by n (polls_from events (tail_first events)) else [])) c.is_rank_going-is_going.ensures)
          c.loop-rank.invariant.polls;
    }
