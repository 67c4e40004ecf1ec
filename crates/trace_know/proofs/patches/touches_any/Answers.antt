use Rattle.std.proofs.Common.{◌≡◌, ◌<◌, ℕ, false, true, List, Bool, inl, inr, length, take, sym, subst, ◌∙◌, arith}
use Rattle.std.proofs.lemmas.Bool.{cases_lt}
use Rattle.std.specs.Prelude.{IsTrue, IsFalse}
use Rattle.std.proofs.lemmas.List.{get_or_default}
use Rattle.trace_know.specs.declared.run.Run.{Run}
use Rattle.trace_know.specs.Runs.{IsFilled, spot, start_of, end_of, last_end}
use Rattle.trace_know.proofs.Order.{filled}
use Rattle.trace_know.proofs.Covering.{clear-between}
use Rattle.trace_know.proofs.patches.touches_any.Goals as goal

not_both : (b : Bool) → IsTrue b → IsFalse b → ⊥
not_both true t f = absurd cc
not_both false t f = absurd cc

pub begins_by-requires-clause-filled : goal.begins_by-requires-clause-filled
begins_by-requires-clause-filled c =
    let inside : c.first_at-at.result < length c.args.runs.now.items = omega arith in
    subst IsFilled (sym c.at.ensures) (filled 0 c.first_at-at.result c.args.runs.now.items c.at.result.now c.requires.above inside)

before_run : (runs : List Run) (at rank first : ℕ) (r : Run) → last_end 0 (take at runs) < spot rank first → rank ≡ r.rank → first ≡ r.first → last_end 0 (take at runs) < start_of r
before_run runs at rank first r h same begins = omega arith

pub returns-then-at-len : goal.returns-then-at-len
returns-then-at-len c = λ f.
    let before = before_run c.args.runs.now.items c.first_at-at.result c.rank.result c.first.result c.args.run.now c.first_at-at.ensures.before c.rank.ensures c.first.ensures in
    clear-between c.args.runs.now.items c.first_at-at.result c.args.run.now c.requires.above c.requires.filled c.first_at-at.ensures.bound before (λ d l. absurd (omega arith))

pub returns : goal.returns
returns c = λ f.
    let runs = c.args.runs.now.items in
    let at = c.first_at-at.result in
    let r = c.at.result.now in
    let before = before_run runs at c.rank.result c.first.result c.args.run.now c.first_at-at.ensures.before c.rank.ensures c.first.ensures in
    clear-between runs at c.args.run.now c.requires.above c.requires.filled c.first_at-at.ensures.bound before (λ d l. elim (cases_lt (end_of c.args.run.now) (start_of r)) [
      | inl lt ↦ subst (λ (x : Run). end_of c.args.run.now < start_of x) (c.at.ensures ∙ get_or_default runs at r d l) lt
      | inr le ↦ absurd (not_both c.begins_by.result (c.begins_by.ensures.1 (omega arith)) f)
    ])
