use Rattle.std.proofs.Common.{◌≡◌, ℕ, ◌+◌, ◌<◌, List, ◌∷◌, drop, get_or, length, sym, ap, ◌∙◌, arith}
use Rattle.trace_know.specs.declared.cell.Known.{Known}
use Rattle.trace_know.specs.Runs.{listed}
use Rattle.trace_know.proofs.Listing.{next_run}
use Rattle.trace_know.proofs.Walks.{read_apart, walk-left, walk-turned, within_first, shorter}
use Rattle.trace_know.proofs.walk.WalkIterator.next.Goals as goal

pub returns-then-self-len-clause-steps : goal.returns-then-self-len-clause-steps
returns-then-self-len-clause-steps c =
    let run = c.at-run.result.now in
    let items = c.self.inside.runs.now.items in
    let index = c.self.inside.index in
    let runs = drop index items in
    let rest = drop (index + 1) items in
    let at = c.self.inside.at in
    let inside : index < length items = omega arith in
    let split : runs ≡ run ∷ rest = next_run items index run inside (sym c.at-run.ensures) in
    let known = c.cell-known.result.now in
    sym c.self.view_is ∙ walk-left runs run rest at known split (omega arith)
    ∙ read_apart run.rank c.rank.result run.first c.first.result at (get_or run.cells.items at known) known (drop (at + 1) (listed runs)) c.rank.ensures c.first.ensures c.cell-known.ensures

pub returns-then-self-len-clause-goes : goal.returns-then-self-len-clause-goes
returns-then-self-len-clause-goes c = record { on = λ finite. (tt, finite, shorter _ _ _ (returns-then-self-len-clause-steps c)); keeps = tt; rests = λ finite. tt }

pub returns-clause-steps : goal.returns-clause-steps
returns-clause-steps c =
    let run = c.at-run.result.now in
    let items = c.self.inside.runs.now.items in
    let index = c.self.inside.index in
    let runs = drop index items in
    let rest = drop (index + 1) items in
    let at = c.self.inside.at in
    let inside : index < length items = omega arith in
    let split : runs ≡ run ∷ rest = next_run items index run inside (sym c.at-run.ensures) in
    let known = c.cell-known.result.now in
    let within : at < length run.cells.items = within_first runs run rest at split c.self.invariant in
    sym c.self.view_is ∙ walk-left runs run rest at known split within
    ∙ read_apart run.rank c.rank-2.result run.first c.first.result at (get_or run.cells.items at known) known (drop (at + 1) (listed runs)) c.rank-2.ensures c.first.ensures c.cell-known.ensures
    ∙ ap (λ (es : List ((ℕ × ℕ) × Known)). ((c.rank-2.result, c.first.result + at), known) ∷ es) (walk-turned runs run rest at split (omega arith))

pub returns-clause-goes : goal.returns-clause-goes
returns-clause-goes c = record { on = λ finite. (tt, finite, shorter _ _ _ (returns-clause-steps c)); keeps = tt; rests = λ finite. tt }
