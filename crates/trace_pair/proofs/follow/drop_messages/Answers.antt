use Rattle.std.proofs.Common.{◌≡◌, ◌+◌, ◌-◌, ℕ, subst, take, arith}
use Rattle.trace_pair.specs.Calls.{between}
use Rattle.trace_pair.specs.Followed.{Indexes}
use Rattle.trace_pair.proofs.ByCall.{adds_at}
use Rattle.trace_pair.proofs.follow.drop_messages.Goals as goal

pub loop-left-preserved : goal.loop-left-preserved
loop-left-preserved c =
    let i = c.loop-left.left - 1 in
    let n : c.loop-left.left ≡ i + 1 = omega arith in
    record {
      high = omega arith;
      low = omega arith;
      state = λ after before behind qs s x.
          c.in_ok-pop_message.ensures after (between before (take i c.args.held.now) behind) (between before (take (i + 1) c.args.held.now) behind) qs
          (adds_at before behind c.args.held.now i _ (omega arith) s)
          (subst (λ (k : ℕ). Indexes after (between before (take k c.args.held.now) behind) qs c.loop-left.state) n (c.loop-left.invariant.state after before behind qs s x));
    }

pub returns : goal.returns
returns c = λ after before behind qs s x.
    let n : c.loop-left.left ≡ c.args.keep = omega arith in
    subst (λ (k : ℕ). Indexes after (between before (take k c.args.held.now) behind) qs c.loop-left.state) n (c.loop-left.invariant.state after before behind qs s x)
