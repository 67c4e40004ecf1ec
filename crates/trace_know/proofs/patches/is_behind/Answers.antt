use Rattle.std.proofs.Common.{◌≡◌, ◌-◌, ◌<◌, inl, inr, List, Bool, true, false, length, sym, subst, ap, ◌∙◌, arith}
use Rattle.std.proofs.lemmas.Bool.{cases_lt}
use Rattle.std.proofs.lemmas.List.{get_or_default}
use Rattle.std.specs.Prelude.{IsTrue}
use Rattle.trace_know.specs.declared.run.Run.{Run}
use Rattle.trace_know.specs.Runs.{Above, IsFilled, start_of, end_of, last_end, last_of}
use Rattle.trace_know.proofs.Order.{filled}
use Rattle.trace_know.proofs.Covering.{end-last}
use Rattle.trace_know.proofs.patches.is_behind.Goals as goal

-- the last of rising runs
last_filled : (rs : List Run) (r : Run) → Above 0 rs → 0 < length rs → r ≡ last_of rs r → IsFilled r
last_filled rs r a h is = subst IsFilled (sym is) (filled 0 (length rs - 1) rs r a (omega arith))

last_behind : (runs others : List Run) (r o d : Run) → 0 < length runs → 0 < length others → r ≡ last_of runs r → o ≡ last_of others o → end_of o < start_of r → last_end 0 others < start_of (last_of runs d)
last_behind runs others r o d h k is last lt =
    let ends : last_end 0 others ≡ end_of o = end-last others o k ∙ ap end_of (sym last) in
    subst (λ (x : Run). last_end 0 others < start_of x) (is ∙ get_or_default runs (length runs - 1) r d (omega arith)) (omega arith)

not_so : (b : Bool) → b ≡ false → IsTrue b → ⊥
not_so true e t = absurd cc
not_so false e t = absurd cc

pub end-requires : goal.end-requires
end-requires c = last_filled c.args.others.now.items c.last-other.result.now c.requires.others (omega arith) c.last-other.ensures

pub begins_by-requires-clause-filled : goal.begins_by-requires-clause-filled
begins_by-requires-clause-filled c = last_filled c.args.runs.now.items c.last.result.now c.requires.above (omega arith) c.last.ensures

pub begins_by-requires-clause-place : goal.begins_by-requires-clause-place
begins_by-requires-clause-place c =
    let f = last_filled c.args.others.now.items c.last-other.result.now c.requires.others (omega arith) c.last-other.ensures in
    let places = f.places in
    let end = c.end.ensures in
    omega arith

pub returns-clause-behind : goal.returns-clause-behind
returns-clause-behind c = λ t.
    let r = c.last.result.now in
    let o = c.last-other.result.now in
    elim (cases_lt (end_of o) (start_of r)) [
      | inl lt ↦ record { some = omega arith; behind = λ d. last_behind c.args.runs.now.items c.args.others.now.items r o d (omega arith) (omega arith) c.last.ensures c.last-other.ensures lt }
      | inr le ↦
          let rank = c.rank.ensures in
          let end = c.end.ensures in
          absurd (not_so c.begins_by.result c.if-begins_by.false (c.begins_by.ensures.1 (omega arith)))
    ]
