use Rattle.std.proofs.Common.{◌≡◌, ◌∙◌, ap, get_or, refl, rules, w64, to_z, of_z}
use Rattle.std.specs.Prelude.{pos}
use Rattle.std.proofs.lemmas.Int.{to_z-of_z}
use Rattle.trace_ops.specs.Active.{unless_active}
use Rattle.trace_ops.proofs.Taken.{kept_more}
use Rattle.trace_ops.proofs.active.not_active.Goals as goal

pub loop-number-preserved : goal.loop-number-preserved
loop-number-preserved c =
    let x = get_or c.args.numbers.now c.loop-number.number-index (pos 0) in
    let back : to_z w64 (of_z w64 x) ≡ x = to_z-of_z w64 x (search rules) in
    kept_more (unless_active c.args.active.now) c.args.numbers.now c.loop-number.number-index (pos 0) x c.loop-number.idle.items c.push_some.new.list.items c.unless_active.result
    c.loop-number-test.true refl (c.unless_active.ensures c.args.active.now c.in_ok-known.ensures ∙ ap (unless_active c.args.active.now) back) c.loop-number.invariant c.in_ok-push_some.ensures
