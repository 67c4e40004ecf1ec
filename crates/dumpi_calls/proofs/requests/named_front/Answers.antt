use Rattle.std.proofs.Common.{rules, ◌≡◌, ◌∙◌, ◌++◌, ◌∷◌, [], ◌<◌, sym, length, Some, true, false, arith}
use Rattle.dumpi_text.specs.Items.{next_front}
use Rattle.dumpi_text.specs.Number.{number_item}
use Rattle.dumpi_text.specs.Tokens.{after_spaces}
use Rattle.dumpi_calls.specs.Readings.{request_by}
use Rattle.dumpi_calls.proofs.NumberByNumber.{one_more, the_last}
use Rattle.dumpi_calls.proofs.requests.named_front.Goals as goal

pub loop-preserved : goal.loop-preserved
loop-preserved c =
    let number = c.in-Some.number in
    let w : number_item (after_spaces c.loop.left.now) ≡ Some (number, c.in-Some.rest.now) = search rules in
    let n : next_front 125 (after_spaces c.in-Some.rest.now) ≡ Some (true, c.in-Some-true-default.rest.now) = search rules in
    let new : c.push.new.self.items ≡ c.loop.requests.items ++ request_by number.name number.value ∷ [] = search rules in
    let below : c.loop.counter < length c.args.list.now = omega (arith, c.loop-test.true) in
    sym (one_more (length c.args.list.now) c.loop.counter c.loop.left.now c.loop.requests.items c.push.new.self.items number c.in-Some.rest.now c.in-Some-true-default.rest.now below w n new) ∙ c.loop.invariant

pub returns-in-Some-false-default : goal.returns-in-Some-false-default
returns-in-Some-false-default c =
    let number = c.in-Some.number in
    let w : number_item (after_spaces c.loop.left.now) ≡ Some (number, c.in-Some.rest.now) = search rules in
    let n : next_front 125 (after_spaces c.in-Some.rest.now) ≡ Some (false, c.in-Some-false-default.rest.now) = search rules in
    let new : c.push.new.self.items ≡ c.loop.requests.items ++ request_by number.name number.value ∷ [] = search rules in
    let below : c.loop.counter < length c.args.list.now = omega (arith, c.loop-test.true) in
    sym c.loop.invariant ∙ the_last (length c.args.list.now) c.loop.counter c.loop.left.now c.loop.requests.items c.push.new.self.items number c.in-Some.rest.now c.in-Some-false-default.rest.now below w n new
