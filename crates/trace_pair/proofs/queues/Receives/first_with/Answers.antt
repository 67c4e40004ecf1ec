use Rattle.std.proofs.Common.{◌∙◌, sym, subst, List, None}
use Rattle.mpi_model.specs.declared.message.Receive.{Receive}
use Rattle.trace_pair.specs.Queues.{of_kind, IsBestAmong}
use Rattle.trace_pair.proofs.Queued.{receive_key_if, kind_none}
use Rattle.trace_pair.proofs.queues.Receives.first_with.Goals as goal

pub returns-then-not-has : goal.returns-then-not-has
returns-then-not-has c = subst (λ (l : List Receive). IsBestAmong l c.args.m.now (of_kind c.args.source c.args.tag) None) c.self.view_is
    (kind_none c.self.inside.kinds c.self.inside.groups c.self.invariant c.args.m.now c.args.source c.args.tag (sym c.has.ensures ∙ c.if-not-has.true))

pub returns : goal.returns
returns c = subst (λ (l : List Receive). IsBestAmong l c.args.m.now (of_kind c.args.source c.args.tag) c.first_at.result) c.self.view_is
    (receive_key_if c.self.inside.kinds c.self.inside.groups c.self.invariant c.args.m.now c.args.source c.args.tag c.first_at.result c.requires.source c.requires.tag c.first_at.ensures.some c.first_at.ensures.none)
