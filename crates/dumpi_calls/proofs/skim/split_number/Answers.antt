use Rattle.std.proofs.Common.{◌≡◌, ◌-◌, ℕ, length, length-drop, take, drop, arith}
use Rattle.std.proofs.lemmas.Grind.{common_steps}
use Rattle.std.proofs.lemmas.List.{take_all}
use Rattle.dumpi_text.specs.declared.number.NumName.TheVariants.{Other}
use Rattle.dumpi_calls.proofs.NumberByNumber.{item_value}
use Rattle.dumpi_calls.proofs.QuickNumber.{front_value}
use Rattle.dumpi_calls.proofs.skim.split_number.Goals as goal

pub returns-clause-number : goal.returns-clause-number
returns-clause-number c =
    let front = c.digits_front-value.ensures in
    let count = c.digits_front-value.result.1 in
    let text = c.args.text.now in
    let rest = take (length text - count) (drop count text) in
    let whole : rest ≡ drop count text = take_all (length text - count) (drop count text) (omega (arith, length-drop {A = ℕ})) in
    let number = front_value text count rest rest Other (omega arith) front.within front.digits (omega (arith, front.number, front.range)) whole in
    grind (arith, common_steps, number, front.number)

pub returns-clause-item : goal.returns-clause-item
returns-clause-item c =
    let front = c.digits_front-value.ensures in
    let count = c.digits_front-value.result.1 in
    let text = c.args.text.now in
    let rest = take (length text - count) (drop count text) in
    let whole : rest ≡ drop count text = take_all (length text - count) (drop count text) (omega (arith, length-drop {A = ℕ})) in
    let number = item_value text count rest Other (omega arith) front.within front.digits (omega (arith, front.number, front.range)) whole in
    grind (arith, common_steps, number, front.number)
