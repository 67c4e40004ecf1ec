use Rattle.std.proofs.Common.{◌∙◌, sym, subst, List, None}
use Rattle.mpi_model.specs.declared.message.Receive.{Receive}
use Rattle.trace_pair.specs.Queues.{of_kind, IsBestAmong, SomeFits}
use Rattle.trace_pair.proofs.Queued.{best_none, best_some, kind_none, receive_key_if}
use Rattle.trace_pair.proofs.queues.Receives.fits_with.Goals as goal

pub returns-then-not-has-clause-no : goal.returns-then-not-has-clause-no
returns-then-not-has-clause-no c = λ _. subst (λ (l : List Receive). IsBestAmong l c.args.m.now (of_kind c.args.source c.args.tag) None) c.self.view_is
    (kind_none c.self.inside.kinds c.self.inside.groups c.self.invariant c.args.m.now c.args.source c.args.tag (sym c.has.ensures ∙ c.if-not-has.true))

pub returns-clause-yes : goal.returns-clause-yes
returns-clause-yes c = λ h. subst (λ (l : List Receive). SomeFits l c.args.m.now) c.self.view_is
    (best_some _ c.args.m.now (of_kind c.args.source c.args.tag) c.first_at.result
    (receive_key_if c.self.inside.kinds c.self.inside.groups c.self.invariant c.args.m.now c.args.source c.args.tag c.first_at.result c.requires.source c.requires.tag c.first_at.ensures.some c.first_at.ensures.none)
    (sym c.is_some.ensures ∙ h))

pub returns-clause-no : goal.returns-clause-no
returns-clause-no c = λ h. subst (λ (l : List Receive). IsBestAmong l c.args.m.now (of_kind c.args.source c.args.tag) None) c.self.view_is
    (best_none _ c.args.m.now (of_kind c.args.source c.args.tag) c.first_at.result
    (receive_key_if c.self.inside.kinds c.self.inside.groups c.self.invariant c.args.m.now c.args.source c.args.tag c.first_at.result c.requires.source c.requires.tag c.first_at.ensures.some c.first_at.ensures.none)
    (sym c.is_some.ensures ∙ h))
