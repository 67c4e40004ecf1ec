use Rattle.std.proofs.Common.{◌≡◌, ◌∙◌, ◌+◌, ℕ, None, suc, sym, subst, take, arith}
use Rattle.std.specs.List.{find}
use Rattle.trace_arguments.specs.Differing.{is_alike}
use Rattle.trace_arguments.proofs.Lists.{found, none_next}
use Rattle.trace_arguments.proofs.groups.first_like.Goals as goal

pub returns-then-is_alike : goal.returns-then-is_alike
returns-then-is_alike c =
    sym (found (λ w. is_alike c.args.line w c.args.value.now) c.args.values.now c.loop-other.other-index c.other-item.result c.loop-other-test.true c.other-item.is c.loop-other.invariant (sym c.is_alike.ensures ∙ c.if-is_alike.true))

pub loop-other-preserved : goal.loop-other-preserved
loop-other-preserved c =
    let n : suc c.loop-other.other-index ≡ c.loop-other.other-index + 1 = omega arith in
    subst (λ (k : ℕ). find (λ w. is_alike c.args.line w c.args.value.now) (take k c.args.values.now) ≡ None) n
    (none_next (λ w. is_alike c.args.line w c.args.value.now) c.args.values.now c.loop-other.other-index c.other-item.result c.loop-other-test.true c.other-item.is c.loop-other.invariant (sym c.is_alike.ensures ∙ c.if-is_alike.false))
