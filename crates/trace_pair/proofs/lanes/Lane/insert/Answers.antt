use Rattle.std.proofs.Common.{◌≡◌, ◌≤◌, ◌∙◌, ◌||◌, List, None, ap, arith, false, length, ltb, subst, sym, take, true}
use Rattle.std.specs.BTreeSet.{BTreeSet, contains}
use Rattle.std.specs.List.Sorted.{IsPartitionPoint}
use Rattle.std.specs.Ordering.{is_eq}
use Rattle.std.proofs.lemmas.List.{take_at}
use Rattle.mpi_model.specs.declared.message.Receive.{Receive}
use Rattle.trace_pair.specs.KeyOrders.{receive_cmp}
use Rattle.trace_pair.specs.Lanes.{AreLatest, IsLane, call_of, receives_of, set_of_steps}
use Rattle.trace_pair.specs.declared.lanes.Step.{Step}
use Rattle.trace_pair.proofs.LaneSteps.{front_still, order_more, receives_more, renewed_lane, set_adds}
use Rattle.trace_pair.proofs.lanes.Lane.insert.Goals as goal

pub renew-requires : goal.renew-requires
renew-requires c =
    let bound : c.called_before-place.result ≤ length c.self.inside.steps.items = subst (λ (l : List Step). c.called_before-place.result ≤ length l) c.deref.ensures.value c.called_before-place.ensures.bound in
    subst (λ (l : List Step). AreLatest None (take c.called_before-place.result l)) (sym c.deref_mut.ensures.value)
    (front_still c.self.inside.steps.items c.insert.new.self.items c.called_before-place.result _ bound c.in_ok-insert.ensures.items c.self.invariant.latest)

pub invariant_of-self-2 : goal.invariant_of-self-2
invariant_of-self-2 c =
    let n = c.called_before-place.result in
    let bound : n ≤ length c.self.inside.steps.items = subst (λ (l : List Step). n ≤ length l) c.deref.ensures.value c.called_before-place.ensures.bound in
    let point = subst (λ (l : List Step). IsPartitionPoint (λ (s : Step). ltb (call_of s) c.args.q.name.call ≡ true) (λ (s : Step). ltb (call_of s) c.args.q.name.call ≡ false) l n) c.deref.ensures.value
    c.called_before-place.ensures.parted in
    subst (λ (l : List Step). IsLane l) (sym (take_at c.renew.new.steps _ c.insert.new.self.len (c.renew.auto.steps ∙ c.deref_mut.ensures.len)))
    (renewed_lane c.insert.new.self.items c.renew.new.steps
    (order_more c.self.inside.steps.items c.insert.new.self.items n _ c.self.invariant.in_order bound (λ k d lt. point.0 k d (omega arith) lt) (λ k d ge lt. point.1 k d ge lt) c.in_ok-insert.ensures.items)
    (c.renew.ensures.same ∙ ap receives_of c.deref_mut.ensures.value) c.renew.ensures.latest)

pub returns-clause-ok : goal.returns-clause-ok
returns-clause-ok c = λ d.
    ap (λ (l : List Step). contains receive_cmp (set_of_steps l) d) (take_at c.renew.new.steps _ c.insert.new.self.len (c.renew.auto.steps ∙ c.deref_mut.ensures.len))
    ∙ set_adds (receives_of c.self.inside.steps.items) (receives_of c.renew.new.steps) c.args.q
    (receives_more c.self.inside.steps.items c.insert.new.self.items c.renew.new.steps c.called_before-place.result _ c.in_ok-insert.ensures.items (c.renew.ensures.same ∙ ap receives_of c.deref_mut.ensures.value)) d
    ∙ ap (λ (s : BTreeSet Receive). is_eq (receive_cmp c.args.q d) || contains receive_cmp s d) c.self.view_is
