use Rattle.std.proofs.Common.{◌≡◌, ◌∙◌, ◌+◌, ℕ, None, suc, sym, subst, take, arith}
use Rattle.text_notes.specs.Places.{is_named, place_of}
use Rattle.text_notes.proofs.Found.{found, none_next}
use Rattle.text_notes.proofs.function.place_of.Goals as goal

pub returns-then-is_named : goal.returns-then-is_named
returns-then-is_named c =
    sym (found (is_named c.args.name.now) c.args.functions.now c.loop-at.at c.index-functions-at.result c.loop-at-test.true c.index-functions-at.is c.loop-at.invariant (sym c.is_named.ensures ∙ c.if-is_named.true))

pub loop-at-preserved : goal.loop-at-preserved
loop-at-preserved c =
    let n : suc c.loop-at.at ≡ c.loop-at.at + 1 = omega arith in
    subst (λ (k : ℕ). place_of c.args.name.now (take k c.args.functions.now) ≡ None) n
    (none_next (is_named c.args.name.now) c.args.functions.now c.loop-at.at c.index-functions-at.result c.loop-at-test.true c.index-functions-at.is c.loop-at.invariant (sym c.is_named.ensures ∙ c.if-is_named.false))
