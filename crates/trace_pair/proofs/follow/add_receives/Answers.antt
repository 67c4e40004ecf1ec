use Rattle.std.proofs.Common.{◌≡◌, ◌+◌, ℕ, List, subst, take, length, arith, ap, ◌∙◌}
use Rattle.std.proofs.Math.Seq.{take-length}
use Rattle.mpi_model.specs.declared.message.Receive.{Receive}
use Rattle.trace_pair.specs.After.{comes_after}
use Rattle.trace_pair.specs.Calls.{between}
use Rattle.trace_pair.specs.Followed.{Indexes}
use Rattle.trace_pair.proofs.ByCall.{posts_at}
use Rattle.trace_pair.proofs.follow.add_receives.Goals as goal

pub loop-next-preserved : goal.loop-next-preserved
loop-next-preserved c =
    let i = c.loop-next.next in
    record {
      high = omega arith;
      state = λ before behind ms s x.
          c.in_ok-add_receive.ensures ms (between before (take i c.args.held.now) behind) (between before (take (i + 1) c.args.held.now) behind)
          (posts_at before behind c.args.held.now i _ (omega arith) s)
          (c.loop-next.invariant.state before behind ms s x);
    }

pub returns : goal.returns
returns c = λ before behind ms s x.
    let n : c.loop-next.next ≡ length c.args.held.now = omega arith in
    subst (λ (l : List Receive). Indexes (comes_after c.args.reaches.now) ms (between before l behind) c.loop-next.state) (ap (λ (k : ℕ). take k c.args.held.now) n ∙ take-length c.args.held.now) (c.loop-next.invariant.state before behind ms s x)
