use Rattle.std.proofs.Common.{subst, sym}
use Rattle.trace_pair.specs.Kept.{IsKept}
use Rattle.trace_pair.specs.declared.index.Following.{Following}
use Rattle.trace_pair.proofs.Ranked.{kept_fresh}
use Rattle.trace_pair.proofs.index.PairIndex.set.Goals as goal

pub invariant_of-self-in-Err : goal.invariant_of-self-in-Err
invariant_of-self-in-Err c = subst (λ (f : Following). IsKept c.forget.new.held.items f) (sym c.replace-following.ensures.after) (kept_fresh _ _ c.forget.ensures)
