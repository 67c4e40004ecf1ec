use Rattle.trace_know.specs.declared.run.Run.{Run}
use Rattle.std.proofs.lemmas.List.{drop_all}
use Rattle.std.proofs.Common.{◌≡◌, ◌<◌, ◌≤◌, ◌+◌, ◌-◌, ℕ, List, length, drop, sym, ap, subst, ◌∙◌, arith}
use Rattle.std.specs.List.{slice_get}
use Rattle.trace_know.specs.Listing.{conflicts_in}
use Rattle.trace_know.specs.Runs.{IsFilled, listed, cells_of_run}
use Rattle.trace_know.proofs.Order.{filled}
use Rattle.trace_know.proofs.Listing.{next-conflicts, conflicts-of-run, get-front, get-back}
use Rattle.trace_know.proofs.readers.conflict_in.Goals as goal

pub conflict_in_run-requires : goal.conflict_in_run-requires
conflict_in_run-requires c =
    let inside : c.loop-index.index < length c.args.runs.now.items = omega arith in
    let f : IsFilled c.at-run.result.now = subst IsFilled (sym c.at-run.ensures) (filled 0 c.loop-index.index c.args.runs.now.items c.at-run.result.now c.requires inside) in
    f

pub returns-then-left-conflicts : goal.returns-then-left-conflicts
returns-then-left-conflicts c =
    let inside : c.loop-index.index < length c.args.runs.now.items = omega arith in
    let f : IsFilled c.at-run.result.now = subst IsFilled (sym c.at-run.ensures) (filled 0 c.loop-index.index c.args.runs.now.items c.at-run.result.now c.requires inside) in
    let r = c.at-run.result.now in
    let mine = conflicts_in (cells_of_run r) in
    let n = f.counted.conflicts in
    let size = conflicts-of-run r.rank r.first r.cells.items in
    let within : c.loop-index.left < length mine = omega arith in
    c.conflict_in_run.ensures ∙ sym (get-front mine (conflicts_in (listed (drop (c.loop-index.index + 1) c.args.runs.now.items))) c.loop-index.left within)
    ∙ sym (ap (λ (qs : List (ℕ × ℕ)). slice_get qs c.loop-index.left) (next-conflicts c.args.runs.now.items c.loop-index.index r inside (sym c.at-run.ensures))) ∙ c.loop-index.invariant

pub loop-index-preserved : goal.loop-index-preserved
loop-index-preserved c =
    let inside : c.loop-index.index < length c.args.runs.now.items = omega arith in
    let f : IsFilled c.at-run.result.now = subst IsFilled (sym c.at-run.ensures) (filled 0 c.loop-index.index c.args.runs.now.items c.at-run.result.now c.requires inside) in
    let r = c.at-run.result.now in
    let mine = conflicts_in (cells_of_run r) in
    let rest = conflicts_in (listed (drop (c.loop-index.index + 1) c.args.runs.now.items)) in
    let n = f.counted.conflicts in
    let size = conflicts-of-run r.rank r.first r.cells.items in
    let past : length mine ≤ c.loop-index.left = omega arith in
    let left : c.loop-index.left - length mine ≡ c.loop-index.left - c.conflicts-left.result = omega arith in
    sym (ap (slice_get rest) left) ∙ sym (get-back mine rest c.loop-index.left past)
    ∙ sym (ap (λ (qs : List (ℕ × ℕ)). slice_get qs c.loop-index.left) (next-conflicts c.args.runs.now.items c.loop-index.index r inside (sym c.at-run.ensures))) ∙ c.loop-index.invariant

pub returns : goal.returns
returns c = sym (ap (λ (rs : List Run). slice_get (conflicts_in (listed rs)) c.loop-index.left) (drop_all c.loop-index.index c.args.runs.now.items (omega arith))) ∙ c.loop-index.invariant
