use Rattle.std.proofs.Common.{◌∙◌, ℕ, List, ap, eqb, subst, sym}
use Rattle.std.proofs.lemmas.List.Sorted.{IsNonDecreasingBy-from_sort, list_any-IsPermutation, non_decreasing_from_is_sorted}
use Rattle.std.specs.List.{list_any}
use Rattle.std.specs.List.Sorted.{IsNonDecreasing}
use Rattle.trace_pair.proofs.reach.in_order.Goals as goal

pub returns-then-is_sorted-clause-order : goal.returns-then-is_sorted-clause-order
returns-then-is_sorted-clause-order c =
    let told = non_decreasing_from_is_sorted c.deref.result.now c.is_sorted.result c.is_sorted.ensures.cases in
    subst (λ (l : List ℕ). IsNonDecreasing l) c.deref.ensures.value (rw c.if-is_sorted.true at told)

pub returns-clause-same : goal.returns-clause-same
returns-clause-same c = λ q.
    let p = λ (x : ℕ). eqb x q in
    sym (list_any-IsPermutation p c.in_ok-ordered.ordered.items c.sort.new.self.items c.in_ok-sort.ensures.permutation) ∙ ap (λ (l : List ℕ). list_any p l) c.in_ok-ordered.ensures.items

pub returns-clause-order : goal.returns-clause-order
returns-clause-order c = IsNonDecreasingBy-from_sort (λ (x : ℕ). x) c.sort.new.self.items c.in_ok-sort.ensures.sorted
