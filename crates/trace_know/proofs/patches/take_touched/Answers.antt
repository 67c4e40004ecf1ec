use Rattle.std.proofs.Common.{inl, inr, ◌≡◌, ◌+◌, ◌<◌, ℕ, List, length, slice_index_or, sym, ap, subst, ◌∙◌, arith}
use Rattle.std.proofs.lemmas.Bool.{cases_lt}
use Rattle.std.proofs.lemmas.List.{get_or_default}
use Rattle.trace_know.specs.declared.run.Run.{Run}
use Rattle.trace_know.specs.Patches.{IsClear, IsSettled}
use Rattle.trace_know.specs.Runs.{of_runs, of_run, IsFilled}
use Rattle.trace_know.specs.View.{View, join}
use Rattle.trace_know.proofs.Order.{filled, filled-alike, view-alike}
use Rattle.trace_know.proofs.Covering.{held-now, member, settled-more, touched}
use Rattle.trace_know.proofs.patches.take_touched.Goals as goal

-- what holds of the runs before an index holds of those up to it
up_to : (rs : List Run) (i : ℕ) (r : Run) (v : View) → i < length rs → r ≡ slice_index_or rs i r → ((k : ℕ) (d : Run) → k < i → IsSettled (slice_index_or rs k d) v) → IsSettled r v
    → (k : ℕ) (d : Run) → k < i + 1 → IsSettled (slice_index_or rs k d) v
up_to rs i r v h is before here k d l = elim (cases_lt k i) [
  | inl lt ↦ before k d lt
  | inr le ↦
      let last : k ≡ i = omega arith in
      subst (λ (n : ℕ). IsSettled (slice_index_or rs n d) v) (sym last) (subst (λ (x : Run). IsSettled x v) (is ∙ get_or_default rs i r d h) here)
]

pub touches_any-requires-clause-filled : goal.touches_any-requires-clause-filled
touches_any-requires-clause-filled c =
    let inside : c.loop-index.index < length c.args.runs.now.items = omega arith in
    subst IsFilled (sym c.at-run.ensures) (filled 0 c.loop-index.index c.args.runs.now.items c.at-run.result.now c.requires.above inside)

pub take_run-requires-clause-filled : goal.take_run-requires-clause-filled
take_run-requires-clause-filled c =
    let inside : c.loop-index.index < length c.args.runs.now.items = omega arith in
    filled-alike c.in_ok-copy.copy c.at-run.result.now c.in_ok-copy.ensures (subst IsFilled (sym c.at-run.ensures) (filled 0 c.loop-index.index c.args.runs.now.items c.at-run.result.now c.requires.above inside))

pub loop-index-preserved-then-not-touches_any : goal.loop-index-preserved-then-not-touches_any
loop-index-preserved-then-not-touches_any c =
    let runs = c.args.runs.now.items in
    let i = c.loop-index.index in
    let r = c.at-run.result.now in
    let inside : i < length runs = omega arith in
    let clear : IsClear r (of_runs c.loop-index.patch.items) = (c.touches_any.ensures c.if-not-touches_any.true) in
    record {
      above = c.loop-index.invariant.above;
      view = c.loop-index.invariant.view;
      settled = up_to runs i r (of_runs c.loop-index.patch.items) inside c.at-run.ensures c.loop-index.invariant.settled (inr clear);
    }

pub loop-index-preserved : goal.loop-index-preserved
loop-index-preserved c =
    let runs = c.args.runs.now.items in
    let i = c.loop-index.index in
    let r = c.at-run.result.now in
    let copy = c.in_ok-copy.copy in
    let inside : i < length runs = omega arith in
    let so_far = c.loop-index.invariant in
    let patch = of_runs c.loop-index.patch.items in
    let grown : of_runs c.take_run.new.runs.items ≡ join patch (of_run r) = c.in_ok-take_run.ensures.ok ∙ ap (join patch) (view-alike copy r c.in_ok-copy.ensures) in
    record {
      above = c.take_run.ensures.above;
      view = ap (join (of_runs runs)) grown ∙ touched (of_runs runs) patch (of_runs c.args.patch.now.items) (of_run r) so_far.view (member runs i r inside c.at-run.ensures);
      settled = λ k d l. subst (λ (v : View). IsSettled (slice_index_or runs k d) v) (sym grown)
          (up_to runs i r (join patch (of_run r)) inside c.at-run.ensures
          (λ n e m. settled-more runs n i e r patch c.requires.above m inside c.at-run.ensures (so_far.settled n e m))
          (inl (held-now patch r)) k d l);
    }

pub returns-clause-settled : goal.returns-clause-settled
returns-clause-settled c = λ k d l. c.loop-index.invariant.settled k d (omega arith)
