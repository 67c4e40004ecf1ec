use Rattle.std.proofs.Common.{◌≡◌, ◌-◌, ℕ, length, length-drop, take, drop, arith}
use Rattle.std.proofs.lemmas.Grind.{common_steps}
use Rattle.std.proofs.lemmas.List.{take_all}
use Rattle.dumpi_calls.proofs.QuickNumber.{quick_value}
use Rattle.dumpi_calls.proofs.quick.plain_number.Goals as goal

pub returns : goal.returns
returns c =
    let front = c.digits_front-value.ensures in
    let count = c.digits_front-value.result.1 in
    let whole : take (length c.args.text.now - count) (drop count c.args.text.now) ≡ drop count c.args.text.now = take_all (length c.args.text.now - count) (drop count c.args.text.now) (omega (arith, length-drop {A = ℕ})) in
    let value = quick_value c.args.text.now count (take (length c.args.text.now - count) (drop count c.args.text.now)) c.in_ok-name.name (omega arith) front.within front.digits (omega (arith, front.number, front.range)) whole c.in_ok-name.ensures.digits c.in_ok-name.ensures.note in
    grind (arith, common_steps, value, front.number)
