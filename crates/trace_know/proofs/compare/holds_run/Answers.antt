use Rattle.std.proofs.Common.{◌≡◌, ◌+◌, ◌<◌, ℕ, inl, inr, Option, Some, length, slice_index_or, sym, subst, ◌∙◌, arith}
use Rattle.std.proofs.lemmas.Bool.{cases_lt}
use Rattle.std.proofs.lemmas.List.{get_or_default}
use Rattle.std.specs.FinMap.{get}
use Rattle.trace_know.specs.declared.cell.Known.{Known}
use Rattle.trace_know.specs.Cell.{IsAtMost}
use Rattle.trace_know.specs.Runs.{of_runs}
use Rattle.trace_know.proofs.Covering.{run-held}
use Rattle.trace_know.proofs.compare.holds_run.Goals as goal

pub loop-i-preserved : goal.loop-i-preserved
loop-i-preserved c = λ k d l.
    let other = c.args.other.now in
    let view = of_runs c.args.runs.now.items in
    let i = c.loop-i.i in
    elim (cases_lt k i) [
      | inl lt ↦ c.loop-i.invariant k d lt
      | inr le ↦
          let last : k ≡ i = omega arith in
          let inside : i < length other.cells.items = omega arith in
          let held : IsAtMost (Some c.cell.result.now) (get view (c.rank.result, c.first.result + i)) = subst (λ (o : Option Known). IsAtMost (Some c.cell.result.now) o) c.known_in.ensures (c.is_held.ensures.0 c.if-not-is_held.false) in
          let there : IsAtMost (Some c.cell.result.now) (get view (other.rank, other.first + i)) = subst (λ (q : ℕ × ℕ). IsAtMost (Some c.cell.result.now) (get view q)) (λ j. (c.rank.ensures j, c.first.ensures j + i)) held in
          subst (λ (n : ℕ). IsAtMost (Some (slice_index_or other.cells.items n d)) (get view (other.rank, other.first + n))) (sym last)
          (subst (λ (x : Known). IsAtMost (Some x) (get view (other.rank, other.first + i))) (c.cell.ensures ∙ get_or_default other.cells.items i c.cell.result.now d inside) there)
    ]

pub returns : goal.returns
returns c = λ t. run-held c.args.other.now (of_runs c.args.runs.now.items) (λ i d l. c.loop-i.invariant i d (omega arith))
