use Rattle.std.proofs.Common.{◌≡◌, ◌-◌, ℕ, length, length-drop, take, drop, arith}
use Rattle.std.proofs.lemmas.List.{take_all}
use Rattle.dumpi_calls.proofs.NumberByNumber.{numbers_begin}
use Rattle.dumpi_calls.proofs.requests.begins_numbers.Goals as goal

pub returns : goal.returns
returns c =
    let front = c.digits_front-count.ensures in
    let count = c.digits_front-count.result.1 in
    let list = c.args.list.now in
    let rest = take (length list - count) (drop count list) in
    let whole : rest ≡ drop count list = take_all (length list - count) (drop count list) (omega (arith, length-drop {A = ℕ})) in
    λ ends. numbers_begin list count rest (omega arith) front.within front.digits whole (c.ends_number.ensures.word ends) (c.ends_number.ensures.no_field ends)
