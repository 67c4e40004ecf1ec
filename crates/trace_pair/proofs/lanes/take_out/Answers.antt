use Rattle.std.proofs.Common.{◌∙◌, List, ap, not, rules, subst, sym}
use Rattle.std.proofs.lemmas.Fn.{filter_same}
use Rattle.std.proofs.lemmas.List.{take_at}
use Rattle.trace_pair.specs.KeyOrders.{same_receive}
use Rattle.trace_pair.specs.Lanes.{IsLane, receives_of}
use Rattle.trace_pair.specs.Sets.{DropsFrom}
use Rattle.trace_pair.specs.declared.lanes.Step.{Step}
use Rattle.trace_pair.proofs.LaneSteps.{order_less, receives_less, renewed_lane}
use Rattle.trace_pair.proofs.lanes.take_out.Goals as goal

pub returns-clause-lane : goal.returns-clause-lane
returns-clause-lane c =
    let kept = filter_same _ (λ (s : Step). not (same_receive s.receive c.args.q.now)) _ (λ s b f k. search rules) _ _ c.retain.ensures.filtered in
    subst (λ (l : List Step). IsLane l) (sym (take_at c.renew.new.steps _ c.retain.new.self.len (c.renew.auto.steps ∙ c.deref_mut.ensures.len)))
    (renewed_lane c.retain.new.self.items c.renew.new.steps (order_less c.args.steps.now.items c.retain.new.self.items _ kept c.requires)
    (c.renew.ensures.same ∙ ap receives_of c.deref_mut.ensures.value) c.renew.ensures.latest)

pub returns-clause-dropped : goal.returns-clause-dropped
returns-clause-dropped c =
    let kept = filter_same _ (λ (s : Step). not (same_receive s.receive c.args.q.now)) _ (λ s b f k. search rules) _ _ c.retain.ensures.filtered in
    subst (λ (l : List Step). DropsFrom (receives_of c.args.steps.now.items) (receives_of l) c.args.q.now)
    (sym (take_at c.renew.new.steps _ c.retain.new.self.len (c.renew.auto.steps ∙ c.deref_mut.ensures.len)))
    (receives_less c.args.steps.now.items c.retain.new.self.items c.renew.new.steps c.args.q.now kept (c.renew.ensures.same ∙ ap receives_of c.deref_mut.ensures.value))
