use Rattle.trace_know.specs.Patches.{AddTheSame}
use Rattle.std.proofs.lemmas.List.{take_all}
use Rattle.std.proofs.Common.{◌≡◌, ◌+◌, ◌<◌, List, [], ◌∷◌, ◌++◌, length, take, sym, ap, subst, ◌∙◌, arith}
use Rattle.trace_know.specs.declared.run.Run.{Run}
use Rattle.trace_know.specs.Runs.{of_runs, of_run, Above, IsAlike, IsFilled, start_of, end_of, last_end}
use Rattle.trace_know.specs.View.{join}
use Rattle.trace_know.proofs.Order.{filled, filled-alike, end-alike, view-alike, taken_below, last_end-next}
use Rattle.trace_know.proofs.Covering.{above-last, added, ends-later, last_end-last, of-last, passed, taken-next}
use Rattle.trace_know.proofs.patches.unheld.Goals as goal

pub holds_run-requires-clause-filled : goal.holds_run-requires-clause-filled
holds_run-requires-clause-filled c =
    let inside : c.loop-index.index < length c.args.others.now.items = omega arith in
    subst IsFilled (sym c.at-other.ensures) (filled 0 c.loop-index.index c.args.others.now.items c.at-other.result.now c.requires.others inside)

pub loop-index-preserved-then-holds_run : goal.loop-index-preserved-then-holds_run
loop-index-preserved-then-holds_run c =
    let others = c.args.others.now.items in
    let i = c.loop-index.index in
    let o = c.at-other.result.now in
    let inside : i < length others = omega arith in
    let later = ends-later others i o c.requires.others inside c.at-other.ensures in
    let so_far = c.loop-index.invariant in
    record {
      above = so_far.above;
      behind = let bound = so_far.behind in omega arith;
      view = passed (of_runs c.args.runs.now.items) (of_runs c.loop-index.patch.items) (of_runs (take i others)) (of_run o) so_far.view (c.holds_run.ensures c.if-holds_run.true)
          ∙ ap (join (of_runs c.args.runs.now.items)) (sym (taken-next others i o inside c.at-other.ensures));
    }

pub loop-index-preserved : goal.loop-index-preserved
loop-index-preserved c =
    let others = c.args.others.now.items in
    let i = c.loop-index.index in
    let o = c.at-other.result.now in
    let copy = c.in_ok-copy.copy in
    let same : IsAlike copy o = c.in_ok-copy.ensures in
    let inside : i < length others = omega arith in
    let so_far = c.loop-index.invariant in
    let patch = c.loop-index.patch.items in
    let f : IsFilled o = subst IsFilled (sym c.at-other.ensures) (filled 0 i others o c.requires.others inside) in
    let below : last_end 0 (take i others) < start_of o = subst (λ (x : Run). last_end 0 (take i others) < start_of x) (sym c.at-other.ensures) (taken_below 0 i others o c.requires.others inside) in
    let rank = same.rank in
    let first = same.first in
    let bound = so_far.behind in
    let grown : c.push.new.self.items ≡ patch ++ copy ∷ [] = c.push.ensures.items ∙ ap (λ (rs : List Run). rs ++ copy ∷ []) c.reserve.ensures.items in
    record {
      above = subst (λ (rs : List Run). Above 0 rs) (sym grown) (above-last 0 patch copy so_far.above (omega arith) (filled-alike copy o same f));
      behind =
          let last : last_end 0 c.push.new.self.items ≡ end_of copy = ap (last_end 0) grown ∙ last_end-last 0 patch copy in
          let ends : end_of copy ≡ end_of o = end-alike copy o same in
          let next : last_end 0 (take (i + 1) others) ≡ end_of o = last_end-next 0 i others o inside ∙ ap end_of (sym c.at-other.ensures) in
          omega arith;
      view = ap (λ (rs : List Run). join (of_runs c.args.runs.now.items) (of_runs rs)) grown
          ∙ ap (join (of_runs c.args.runs.now.items)) (of-last patch copy ∙ ap (join (of_runs patch)) (view-alike copy o same))
          ∙ added (of_runs c.args.runs.now.items) (of_runs patch) (of_runs (take i others)) (of_run o) so_far.view
          ∙ ap (join (of_runs c.args.runs.now.items)) (sym (taken-next others i o inside c.at-other.ensures));
    }

pub returns-clause-view : goal.returns-clause-view
returns-clause-view c = subst (λ (rs : List Run). AddTheSame c.args.runs.now.items c.loop-index.patch.items rs) (take_all c.loop-index.index c.args.others.now.items (omega arith)) c.loop-index.invariant.view
