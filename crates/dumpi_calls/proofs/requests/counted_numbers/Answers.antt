use Rattle.std.proofs.Common.{rules, ◌≡◌, ◌∙◌, ◌+◌, ◌-◌, ℕ, length, length-drop, take, drop, arith}
use Rattle.std.proofs.lemmas.List.{take_all}
use Rattle.dumpi_text.specs.Items.{items_front}
use Rattle.dumpi_text.specs.Number.{number_item}
use Rattle.dumpi_text.specs.Tokens.{after_spaces}
use Rattle.dumpi_text.specs.Value.{all_numbers, brace_rest}
use Rattle.dumpi_calls.proofs.NumberByNumber.{core_value}
use Rattle.dumpi_calls.proofs.requests.counted_numbers.Goals as goal

pub returns-then-begins_numbers : goal.returns-then-begins_numbers
returns-then-begins_numbers c =
    let front = c.digits_front-room.ensures in
    let count = c.digits_front-room.result.1 in
    let text = c.args.text.now in
    let list = take (length text - (count + 3)) (drop (count + 3) text) in
    let whole : list ≡ drop (count + 3) text = take_all (length text - (count + 3)) (drop (count + 3) text) (omega (arith, length-drop {A = ℕ})) in
    let begins : brace_rest (after_spaces list) ≡ all_numbers (items_front number_item 125 list) = search rules in
    core_value text list count (omega arith) (omega arith) front.digits (omega arith) (omega arith) (omega arith) whole ∙ begins
