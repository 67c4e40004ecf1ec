use Rattle.std.proofs.Common.{◌≡◌, ◌∙◌, ◌+◌, ℕ, None, suc, sym, subst, take, arith}
use Rattle.std.specs.List.{find}
use Rattle.trace_arguments.specs.Values.{is_root}
use Rattle.trace_arguments.proofs.Lists.{found, none_next}
use Rattle.trace_arguments.proofs.differing.root_of.Goals as goal

pub returns-then-is_the_root : goal.returns-then-is_the_root
returns-then-is_the_root c =
    sym (found (λ v. is_root c.args.root v.place) c.args.values.now c.loop-value.value-index c.value-item.result c.loop-value-test.true c.value-item.is c.loop-value.invariant (sym c.is_the_root.ensures ∙ c.if-is_the_root.true))

pub loop-value-preserved : goal.loop-value-preserved
loop-value-preserved c =
    let n : suc c.loop-value.value-index ≡ c.loop-value.value-index + 1 = omega arith in
    subst (λ (k : ℕ). find (λ v. is_root c.args.root v.place) (take k c.args.values.now) ≡ None) n
    (none_next (λ v. is_root c.args.root v.place) c.args.values.now c.loop-value.value-index c.value-item.result c.loop-value-test.true c.value-item.is c.loop-value.invariant (sym c.is_the_root.ensures ∙ c.if-is_the_root.false))
