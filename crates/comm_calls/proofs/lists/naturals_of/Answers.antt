use Rattle.std.proofs.Common.{◌≡◌, ◌∙◌, ℤ, pos, sym, get_or, arith, rules, w32, w64, to_z, of_z}
use Rattle.std.proofs.lemmas.Grind.{common_steps}
use Rattle.std.proofs.lemmas.Int.{ints, to_z-of_z}
use Rattle.comm_calls.proofs.Firsts.{naturals_more}
use Rattle.comm_calls.proofs.lists.naturals_of.Goals as goal

pub loop-int-preserved : goal.loop-int-preserved
loop-int-preserved c =
    let n : ℤ = get_or c.args.ints.now c.loop-int.int-index (pos 0) in
    let narrow : to_z w32 (of_z w32 n) ≡ n = to_z-of_z w32 n (search rules) in
    let wide : to_z w64 (of_z w64 n) ≡ n = to_z-of_z w64 n (omega (arith, ints)) in
    let is = rw wide at (rw narrow at c.in-Some.ensures) in
    rw c.in_ok-push.ensures.items
    (naturals_more c.args.ints.now c.loop-int.int-index (pos 0) c.loop-int-test.true c.loop-int.naturals.items c.in-Some.natural (sym is)
    ∙ c.loop-int.invariant)

pub loop-int-init : goal.loop-int-init
loop-int-init c = grind (arith, common_steps)

pub returns-in_default : goal.returns-in_default
returns-in_default c = grind (arith, common_steps)

pub returns : goal.returns
returns c = grind (arith, common_steps)
