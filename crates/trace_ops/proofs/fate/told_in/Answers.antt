use Rattle.std.proofs.Common.{◌≡◌, ◌+◌, drop, subst, sym, rules, w64, to_z, of_z}
use Rattle.std.specs.Prelude.{ℤ}
use Rattle.std.proofs.lemmas.Int.{to_z-of_z}
use Rattle.trace_ops.specs.Called.{places_by}
use Rattle.trace_ops.specs.Places.{completed_in}
use Rattle.trace_ops.specs.Source.{told_in}
use Rattle.trace_ops.proofs.Placing.{told_found, told_passed}
use Rattle.trace_ops.proofs.fate.told_in.Goals as goal

pub returns-then-is_some : goal.returns-then-is_some
returns-then-is_some c =
    let members = c.args.members.now in
    let x = c.args.x in
    let places = places_by c.args.called.now in
    let back : to_z w64 (of_z w64 x) ≡ x = to_z-of_z w64 x (search rules) in
    let before : told_in members x (completed_in (drop c.loop-place.place places)) ≡ told_in members x (completed_in (drop c.args.first places)) = cc (c.loop-place.invariant, back) in
    told_found members x places c.loop-place.place c.completed_at.result c.told_at-told.result (told_in members x (completed_in (drop c.args.first places)))
    c.completed_at.ensures (cc (c.told_at-told.ensures, back)) (cc) before

pub loop-place-preserved : goal.loop-place-preserved
loop-place-preserved c =
    let members = c.args.members.now in
    let x = c.args.x in
    let places = places_by c.args.called.now in
    let back : to_z w64 (of_z w64 x) ≡ x = to_z-of_z w64 x (search rules) in
    let before : told_in members x (completed_in (drop c.loop-place.place places)) ≡ told_in members x (completed_in (drop c.args.first places)) = cc (c.loop-place.invariant, back) in
    subst (λ (z : ℤ). told_in members z (completed_in (drop (c.loop-place.place + 1) places)) ≡ told_in members z (completed_in (drop c.args.first places))) (sym back)
    (told_passed members x places c.loop-place.place c.completed_at.result c.told_at-told.result (told_in members x (completed_in (drop c.args.first places)))
    c.completed_at.ensures (cc (c.told_at-told.ensures, back)) (cc) before)
