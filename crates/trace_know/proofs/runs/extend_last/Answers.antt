use Rattle.std.proofs.Common.{◌≡◌, ◌+◌, ◌-◌, ◌<◌, ℕ, length, take, slice_index_or, slice_set, sym, subst, ap, ◌∙◌, arith}
use Rattle.trace_know.specs.declared.run.Run.{Run}
use Rattle.trace_know.specs.View.{join}
use Rattle.trace_know.specs.Rows.{single}
use Rattle.trace_know.specs.Runs.{of_run, of_runs, start_of, IsFilled, IsAlike, last_end}
use Rattle.trace_know.proofs.Order.{filled, taken_below, runs-set, runs-joined, above-replace, on_ok, on_err, view-alike, extended-within}
use Rattle.trace_know.proofs.runs.extend_last.Goals as goal

pub extend-requires : goal.extend-requires
extend-requires c =
    let runs = c.args.runs.now.items in
    let r = c.at_mut.result.now in
    let f : IsFilled r = subst IsFilled (sym c.at_mut.ensures.value) (filled 0 (c.len-last.result - 1) runs r c.requires.above (omega arith)) in
    record { counted = f.counted }

pub returns-clause-ok : goal.returns-clause-ok
returns-clause-ok c =
    let runs = c.args.runs.now.items in
    let at = c.len-last.result - 1 in
    let r = c.at_mut.result.now in
    let new = c.extend.new.run in
    let bound : at < length runs = omega arith in
    let is : r ≡ slice_index_or runs at r = c.at_mut.ensures.value in
    let here : at ≡ length runs - 1 = omega arith in
    let last : r ≡ slice_index_or runs (length runs - 1) r = is ∙ ap (λ (n : ℕ). slice_index_or runs n r) here in
    let rank : r.rank ≡ c.args.rank = ap (λ (x : Run). x.rank) last ∙ c.requires.behind.ranked r in
    let place : r.first + length r.cells.items ≡ c.args.place = ap (λ (x : Run). x.first + length x.cells.items) last ∙ c.requires.behind.placed r in
    on_ok c.extend.result (of_run new ≡ join (of_run r) (single r.rank (r.first + length r.cells.items) c.args.known)) (of_runs (slice_set runs at new) ≡ join (of_runs runs) (single c.args.rank c.args.place c.args.known))
    (λ grown. runs-joined runs at new r (single c.args.rank c.args.place c.args.known) bound is (grown ∙ (λ i. join (of_run r) (single (rank i) (place i) c.args.known)))) c.extend.ensures.ok

pub returns-clause-err : goal.returns-clause-err
returns-clause-err c =
    let runs = c.args.runs.now.items in
    let at = c.len-last.result - 1 in
    let r = c.at_mut.result.now in
    let new = c.extend.new.run in
    let bound : at < length runs = omega arith in
    on_err c.extend.result (IsAlike new r) (of_runs (slice_set runs at new) ≡ of_runs runs)
    (λ same. runs-set runs at new r bound c.at_mut.ensures.value (view-alike new r same)) c.extend.ensures.err

pub returns-clause-above : goal.returns-clause-above
returns-clause-above c =
    let runs = c.args.runs.now.items in
    let at = c.len-last.result - 1 in
    let r = c.at_mut.result.now in
    let new = c.extend.new.run in
    let bound : at < length runs = omega arith in
    let is : r ≡ slice_index_or runs at r = c.at_mut.ensures.value in
    let f : IsFilled r = subst IsFilled (sym is) (filled 0 at runs r c.requires.above bound) in
    let some = f.some in
    let below : last_end 0 (take at runs) < start_of r = subst (λ (x : Run). last_end 0 (take at runs) < start_of x) (sym is) (taken_below 0 at runs r c.requires.above bound) in
    let within = extended-within c.extend.result new r c.extend.ensures.len c.extend.ensures.err in
    let low = within.0 in
    let high = within.1 in
    let rank = c.extend.ensures.same.0 in
    let first = c.extend.ensures.same.1 in
    let here : at ≡ length runs - 1 = omega arith in
    let last : r ≡ slice_index_or runs (length runs - 1) r = is ∙ ap (λ (n : ℕ). slice_index_or runs n r) here in
    let place : r.first + length r.cells.items ≡ c.args.place = ap (λ (x : Run). x.first + length x.cells.items) last ∙ c.requires.behind.placed r in
    above-replace 0 at runs new c.requires.above bound (omega arith) (record { some = omega arith; places = omega arith; counted = c.extend.ensures.counted })
    (λ d l. absurd (omega arith))
