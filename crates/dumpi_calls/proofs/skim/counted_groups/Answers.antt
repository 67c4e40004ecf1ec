use Rattle.std.proofs.Common.{◌≡◌, ◌+◌, ◌-◌, ℕ, length, length-drop, take, drop, arith}
use Rattle.std.proofs.lemmas.List.{take_all}
use Rattle.dumpi_calls.proofs.GroupByGroup.{core_value}
use Rattle.dumpi_calls.proofs.skim.counted_groups.Goals as goal

pub returns : goal.returns
returns c =
    let front = c.digits_front-count.ensures in
    let count = c.digits_front-count.result.1 in
    let text = c.args.text.now in
    let list = take (length text - (count + 3)) (drop (count + 3) text) in
    let whole : list ≡ drop (count + 3) text = take_all (length text - (count + 3)) (drop (count + 3) text) (omega (arith, length-drop {A = ℕ})) in
    core_value text list count (omega arith) (omega arith) front.digits (omega arith) (omega arith) (omega arith) (omega arith) whole
