use Rattle.std.proofs.Common.{subst, sym, take, List}
use Rattle.trace_ops.specs.Ops.{Ops}
use Rattle.trace_pair.specs.After.{comes_after}
use Rattle.trace_pair.specs.Calls.{between}
use Rattle.trace_pair.specs.Followed.{Adds}
use Rattle.trace_pair.proofs.Switched.{at_place}
use Rattle.trace_pair.proofs.follow.add_calls.Goals as goal

pub returns : goal.returns
returns c =
    let own = at_place c.args.held.now c.args.rank c.index-held-rank.result c.requires.rank c.index-held-rank.is in
    subst (λ (o : Ops). Adds (comes_after c.args.held.now) o c.args.fronts c.args.state.now c.add_receives.new.state) own
    (subst (λ (os : List Ops). Adds (comes_after os) c.index-held-rank.result c.args.fronts c.args.state.now c.add_receives.new.state) c.new-reaches.ensures
    (rw (sym c.sends.ensures, sym c.receives.ensures)
    (λ before behind above below s p x.
    c.in_ok-add_receives.ensures above below (between before c.sends.result.now behind) p
    (c.in_ok-add_messages.ensures before behind (between above (take c.args.fronts.receives c.receives.result.now) below) s x))))
