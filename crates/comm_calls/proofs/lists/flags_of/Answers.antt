use Rattle.std.proofs.Common.{◌≡◌, ℤ, pos, get_or, rules, w32, to_z, of_z}
use Rattle.std.proofs.lemmas.Int.{to_z-of_z}
use Rattle.std.proofs.lemmas.List.{map_more}
use Rattle.comm_calls.specs.Numbers.{is_set}
use Rattle.comm_calls.proofs.lists.flags_of.Goals as goal

pub loop-int-preserved : goal.loop-int-preserved
loop-int-preserved c =
    let n : ℤ = get_or c.args.ints.now c.loop-int.int-index (pos 0) in
    let back : to_z w32 (of_z w32 n) ≡ n = to_z-of_z w32 n (search rules) in
    let more = map_more is_set c.args.ints.now c.loop-int.int-index (pos 0) c.loop-int-test.true in
    let pushed = c.in_ok-push.ensures.items in
    let set = rw back at c.is_set.ensures in
    cc
