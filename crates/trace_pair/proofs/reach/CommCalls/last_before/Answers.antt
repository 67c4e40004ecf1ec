use Rattle.std.proofs.Common.{◌≡◌, ◌-◌, ◌∙◌, Bool, List, Some, ap, arith, get_or, ltb, of_calls, rules, subst, sym}
use Rattle.std.proofs.lemmas.Fn.{always_returns_same}
use Rattle.std.proofs.lemmas.List.Sorted.{IsPartitionedBy-ltb}
use Rattle.trace_pair.specs.Barriers.{OnComm, Rise, last_before}
use Rattle.trace_pair.specs.declared.reach.Barrier.{Barrier}
use Rattle.trace_pair.proofs.Rowed.{at_last, at_place, calls_rise, last_at}
use Rattle.trace_pair.proofs.reach.CommCalls.last_before.Goals as goal

pub returns-then-place-eq0 : goal.returns-then-place-eq0
returns-then-place-eq0 c =
    let xs = c.as_slice.result.now in
    let place = c.partition_point-place.result in
    let same : xs ≡ c.args.self.now.barriers = c.as_slice.ensures.value ∙ ap (λ (r : OnComm). r.barriers) c.self.view_is in
    let rise : Rise xs = subst (λ (l : List Barrier). Rise l) (sym same) c.requires in
    let p : Barrier → Bool = λ b. ltb b.call c.args.call in
    let point = c.partition_point-place.ensures.partitioned p (always_returns_same _ _ _ (λ a r f k. search (rules, of_calls))) (IsPartitionedBy-ltb (λ (b : Barrier). b.call) xs c.args.call (calls_rise xs rise)) in
    let d : Barrier = record { call = 0; before = 0 } in
    let last = last_at c.args.call xs place d c.partition_point-place.ensures.bound (λ k lt. point.0 k d (omega arith) lt) (λ k ge lt. point.1 k d ge lt) in
    sym (ap (λ (l : List Barrier). last_before c.args.call l) (sym same) ∙ last ∙ ap (λ i. at_place xs i d) c.if-place-eq0.true)

pub returns-else-place-eq0 : goal.returns-else-place-eq0
returns-else-place-eq0 c =
    let xs = c.as_slice.result.now in
    let place = c.partition_point-place.result in
    let same : xs ≡ c.args.self.now.barriers = c.as_slice.ensures.value ∙ ap (λ (r : OnComm). r.barriers) c.self.view_is in
    let rise : Rise xs = subst (λ (l : List Barrier). Rise l) (sym same) c.requires in
    let p : Barrier → Bool = λ b. ltb b.call c.args.call in
    let point = c.partition_point-place.ensures.partitioned p (always_returns_same _ _ _ (λ a r f k. search (rules, of_calls))) (IsPartitionedBy-ltb (λ (b : Barrier). b.call) xs c.args.call (calls_rise xs rise)) in
    let d : Barrier = c.index.result.now in
    let last = last_at c.args.call xs place d c.partition_point-place.ensures.bound (λ k lt. point.0 k d (omega arith) lt) (λ k ge lt. point.1 k d ge lt) in
    ap (λ (b : Barrier). Some b.before) c.index.ensures ∙ ap (λ (l : List Barrier). Some (get_or l (place - 1) d).before) (sym c.as_slice.ensures.value)
    ∙ sym (at_last xs place d c.if-place-eq0.false) ∙ sym last ∙ ap (λ (l : List Barrier). last_before c.args.call l) same
