use Rattle.std.proofs.Common.{◌∙◌, List, None, filter, subst, sym}
use Rattle.mpi_model.specs.declared.message.Receive.{Receive}
use Rattle.trace_pair.specs.Ends.{IsLastAmong}
use Rattle.trace_pair.specs.Lanes.{is_within}
use Rattle.trace_pair.specs.Queues.{of_kind}
use Rattle.trace_pair.proofs.LaneKeys.{last_in_lane, none_at_key, none_of_kind}
use Rattle.trace_pair.proofs.opened.Opened.last_with.Goals as goal

pub returns-then-not-has : goal.returns-then-not-has
returns-then-not-has c = subst (λ (l : List Receive). IsLastAmong (filter (is_within c.args.limit) l) c.args.m.now (of_kind c.args.source c.args.tag) None) c.self.view_is
    (none_of_kind c.self.inside.kinds c.self.inside.lanes c.self.invariant (is_within c.args.limit) c.args.m.now c.args.source c.args.tag (sym c.has.ensures ∙ c.if-not-has.true))

pub returns-in-Some : goal.returns-in-Some
returns-in-Some c = subst (λ (l : List Receive). IsLastAmong (filter (is_within c.args.limit) l) c.args.m.now (of_kind c.args.source c.args.tag) c.latest.result) c.self.view_is
    (last_in_lane c.self.inside.kinds c.self.inside.lanes c.self.invariant (is_within c.args.limit) c.args.m.now c.args.source c.args.tag c.requires.source c.requires.tag c.in-Some.lane.now c.in-Some.ensures.value
    c.latest.result c.latest.ensures)

pub returns-in-None : goal.returns-in-None
returns-in-None c = subst (λ (l : List Receive). IsLastAmong (filter (is_within c.args.limit) l) c.args.m.now (of_kind c.args.source c.args.tag) None) c.self.view_is
    (none_at_key c.self.inside.kinds c.self.inside.lanes c.self.invariant (is_within c.args.limit) c.args.m.now c.args.source c.args.tag c.requires.source c.requires.tag c.in-None.ensures.value)
