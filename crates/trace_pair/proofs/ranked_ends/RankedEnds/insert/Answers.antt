use Rattle.std.proofs.Common.{◌≡◌, ⊎_elim, ap, arith}
use Rattle.mpi_model.specs.declared.message.Receive.{Receive}
use Rattle.trace_ops.specs.Order.{Has}
use Rattle.trace_pair.proofs.ranked_ends.RankedEnds.insert.Goals as goal

pub returns : goal.returns
returns c = λ opened s.
    let most = c.max-self.ensures in
    record {
      last = c.in_ok-insert.ensures.more opened s.last;
      below = λ u i. ⊎_elim (λ (e : u ≡ c.args.q.now). let same = ap (λ (r : Receive). r.at) e in omega (arith, most, same)) (λ (j : Has opened u). let had = s.below u j in omega (arith, most, had)) i;
    }
