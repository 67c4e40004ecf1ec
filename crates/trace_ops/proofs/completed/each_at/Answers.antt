use Rattle.std.proofs.Common.{◌≡◌, ◌<◌, get_or, length, arith, rules, w64, to_z, of_z}
use Rattle.std.specs.Prelude.{pos}
use Rattle.std.proofs.lemmas.Int.{to_z-of_z}
use Rattle.trace_ops.proofs.Placing.{each_count, each_placed}
use Rattle.trace_ops.proofs.completed.each_at.Goals as goal

pub offset_bounds-requests-place : goal.offset_bounds-requests-place
offset_bounds-requests-place c = let count = each_count c.args.requests.now c.args.tells.now in omega (arith, count)

pub bounds-requests-place : goal.bounds-requests-place
bounds-requests-place c = let count = each_count c.args.requests.now c.args.tells.now in omega (arith, count)

pub returns : goal.returns
returns c =
    let x = get_or c.args.requests.now c.args.place (pos 0) in
    let back : to_z w64 (of_z w64 x) ≡ x = to_z-of_z w64 x (search rules) in
    let count = each_count c.args.requests.now c.args.tells.now in
    let lt : c.args.place < length c.args.requests.now = omega (arith, count) in
    let placed = each_placed c.args.requests.now c.args.tells.now c.args.place lt in
    cc (placed, back)
