use Rattle.std.proofs.Common.{◌≡◌, ◌∙◌, ◌-◌, ℕ, ap, pos, neg_ℤ, length, length-drop, take, drop, arith}
use Rattle.std.proofs.lemmas.Grind.{common_steps}
use Rattle.std.proofs.lemmas.List.{take_all}
use Rattle.dumpi_calls.proofs.QuickNumber.{quick_negative}
use Rattle.dumpi_calls.proofs.quick.negative_number.Goals as goal

pub returns : goal.returns
returns c =
    let front = c.digits_front-magnitude.ensures in
    let count = c.digits_front-magnitude.result.1 in
    let text = c.args.text.now in
    let rest = take (length text - count) (drop count text) in
    let whole : rest ≡ drop count text = take_all (length text - count) (drop count text) (omega (arith, length-drop {A = ℕ})) in
    let value = quick_negative text count rest c.in_ok-name.name c.negative.result (omega arith) front.within front.digits (omega (arith, front.number, front.range)) whole
    c.in_ok-name.ensures.digits c.in_ok-name.ensures.note (c.negative.ensures ∙ ap (λ (n : ℕ). neg_ℤ (pos n)) front.number) in
    grind (arith, common_steps, value)
