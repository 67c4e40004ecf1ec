use Rattle.std.proofs.Common.{◌≡◌, ◌∙◌, ◌+◌, ℕ, None, suc, sym, subst, take, arith}
use Rattle.call_arguments.specs.Names.{is_byte}
use Rattle.call_arguments.specs.Places.{first_where}
use Rattle.call_arguments.proofs.Found.{found, none_next}
use Rattle.call_arguments.proofs.name.place_of.Goals as goal

pub returns-then-is_byte-clause-place : goal.returns-then-is_byte-clause-place
returns-then-is_byte-clause-place c =
    sym (found (is_byte c.args.wanted) c.args.text.now c.loop-at.at 0 c.loop-at-test.true c.loop-at.invariant (sym c.is_byte.ensures ∙ c.if-is_byte.true))

pub loop-at-preserved : goal.loop-at-preserved
loop-at-preserved c =
    let n : suc c.loop-at.at ≡ c.loop-at.at + 1 = omega arith in
    subst (λ (k : ℕ). first_where (is_byte c.args.wanted) (take k c.args.text.now) ≡ None) n
    (none_next (is_byte c.args.wanted) c.args.text.now c.loop-at.at 0 c.loop-at-test.true c.loop-at.invariant (sym c.is_byte.ensures ∙ c.if-is_byte.false))
