use Rattle.std.proofs.Common.{◌≡◌, ◌∙◌, List, None, ap, arith, false, filter, leb, subst, sym, take, true}
use Rattle.std.specs.BTreeSet.{BTreeSet}
use Rattle.std.specs.List.Sorted.{IsPartitionPoint}
use Rattle.mpi_model.specs.declared.message.Receive.{Receive}
use Rattle.trace_pair.specs.Lanes.{IsLatestOf, call_of, end_of, is_within}
use Rattle.trace_pair.specs.declared.lanes.Step.{Step}
use Rattle.trace_pair.proofs.Laned.{latest_all, latest_before}
use Rattle.trace_pair.proofs.lanes.Lane.latest.Goals as goal
use Rattle.trace_pair.proofs.lanes.Lane.latest.Goals.{in-None, in-Some}

pub returns : goal.returns
returns c =
    let steps = c.self.inside.steps in
    let n = c.match-limit.count in
    let told : c.end_of_front.result ≡ end_of None (take n steps.items) = c.end_of_front.ensures ∙ ap (λ (l : List Step). end_of None (take n l)) c.deref-2.ensures.value in
    subst (λ (s : BTreeSet Receive). IsLatestOf (filter (is_within c.args.limit) s.keys) c.end_of_front.result) c.self.view_is (elim c.match-limit.branch [
      | in-None w ↦ latest_all c.args.limit steps.items n c.end_of_front.result c.self.invariant w.in-None.is (omega (arith, w.count-is, steps.ok.0)) told
      | in-Some w ↦
          let point = subst (λ (l : List Step). IsPartitionPoint (λ (s : Step). leb (call_of s) w.in-Some.call ≡ true) (λ (s : Step). leb (call_of s) w.in-Some.call ≡ false) l w.called_by-count.result)
          w.deref.ensures.value w.called_by-count.ensures.parted in
          latest_before c.args.limit steps.items w.in-Some.call n c.end_of_front.result c.self.invariant w.in-Some.is
          (subst (λ k. IsPartitionPoint (λ (s : Step). leb (call_of s) w.in-Some.call ≡ true) (λ (s : Step). leb (call_of s) w.in-Some.call ≡ false) steps.items k) (sym w.count-is) point) told
    ])
