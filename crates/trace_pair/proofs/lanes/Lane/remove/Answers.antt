use Rattle.std.proofs.Common.{◌-◌, ◌∙◌, List, ap, arith, cond, false, subst, sym}
use Rattle.std.specs.BTreeSet.{BTreeSet, contains}
use Rattle.std.specs.Ordering.{is_eq}
use Rattle.mpi_model.specs.declared.message.Receive.{Receive}
use Rattle.trace_pair.specs.KeyOrders.{receive_cmp}
use Rattle.trace_pair.specs.Lanes.{EndsWith, IsLane, receives_of}
use Rattle.trace_pair.specs.declared.lanes.Step.{Step}
use Rattle.trace_pair.proofs.LaneSteps.{front_lane, popped, set_drops}
use Rattle.trace_pair.proofs.lanes.Lane.remove.Goals as goal

pub invariant_of-self : goal.invariant_of-self
invariant_of-self c = subst (λ (l : List Step). IsLane l) (sym c.pop.ensures.rest) (front_lane c.self.inside.steps.items (c.self.inside.steps.len - 1) c.self.invariant)

pub returns-then-stands_last : goal.returns-then-stands_last
returns-then-stands_last c = λ d.
    let steps = c.self.inside.steps in
    let ends = subst (λ (l : List Step). EndsWith l c.args.q.now) c.deref.ensures.value (c.stands_last.ensures c.if-stands_last.true) in
    set_drops (receives_of steps.items) (receives_of c.pop.new.self.items) c.args.q.now (popped steps.items c.pop.new.self.items steps.len c.args.q.now (omega (arith, steps.ok.0)) c.pop.ensures.rest ends) d
    ∙ ap (λ (s : BTreeSet Receive). cond (is_eq (receive_cmp c.args.q.now d)) false (contains receive_cmp s d)) c.self.view_is

pub returns-else-stands_last : goal.returns-else-stands_last
returns-else-stands_last c = λ d.
    set_drops (receives_of c.self.inside.steps.items) (receives_of c.take_out.new.steps.items) c.args.q.now c.take_out.ensures.dropped d
    ∙ ap (λ (s : BTreeSet Receive). cond (is_eq (receive_cmp c.args.q.now d)) false (contains receive_cmp s d)) c.self.view_is
