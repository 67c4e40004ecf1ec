use Rattle.std.proofs.Common.{subst, sym, take}
use Rattle.trace_ops.specs.Ops.{Ops}
use Rattle.trace_pair.specs.Calls.{between}
use Rattle.trace_pair.specs.Followed.{Drops}
use Rattle.trace_pair.proofs.Switched.{at_place, entered_at}
use Rattle.trace_pair.proofs.follow.drop_calls.Goals as goal

pub fronts_of-fronts-requires-clause-held : goal.fronts_of-fronts-requires-clause-held
fronts_of-fronts-requires-clause-held c = entered_at c.args.held.now c.args.rank c.index-held-rank.result c.requires.rank c.requires.held c.index-held-rank.is

pub returns-clause-state : goal.returns-clause-state
returns-clause-state c =
    let own = at_place c.args.held.now c.args.rank c.index-held-rank.result c.requires.rank c.index-held-rank.is in
    subst (λ (o : Ops). Drops o c.fronts_of-fronts.result c.args.state.now c.drop_receives.new.state) own
    (rw (sym c.sends.ensures, sym c.receives.ensures)
    (λ after before behind above below s p x.
    c.in_ok-drop_receives.ensures after above below (between before (take c.fronts_of-fronts.result.sends c.sends.result.now) behind) p
    (c.in_ok-drop_messages.ensures after before behind (between above c.receives.result.now below) s x)))
