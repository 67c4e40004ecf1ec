use Rattle.std.proofs.Common.{rules, ◌≡◌, ◌∙◌, ◌++◌, ◌∷◌, [], ◌<◌, sym, length, Some, false, arith}
use Rattle.dumpi_text.specs.Items.{group_item, next_front}
use Rattle.dumpi_text.specs.Tokens.{after_spaces}
use Rattle.dumpi_calls.specs.Skims.{unseen, with_told}
use Rattle.dumpi_calls.proofs.GroupByGroup.{the_last}
use Rattle.dumpi_calls.proofs.skim.tolds_front.Goals as goal

pub returns-in-Some-false-default : goal.returns-in-Some-false-default
returns-in-Some-false-default c =
    let w : with_told unseen (group_item (after_spaces c.loop.left.now)) ≡ Some (c.in-Some.told, c.in-Some.rest.now) = search rules in
    let n : next_front 125 (after_spaces c.in-Some.rest.now) ≡ Some (false, c.in-Some-false-default.rest.now) = search rules in
    let new : c.push.new.self.items ≡ c.loop.tolds.items ++ c.in-Some.told ∷ [] = search rules in
    let below : c.loop.counter < length c.args.list.now = omega (arith, c.loop-test.true) in
    sym c.loop.invariant ∙ the_last (length c.args.list.now) c.loop.counter c.loop.left.now c.loop.tolds.items c.push.new.self.items c.in-Some.told c.in-Some.rest.now c.in-Some-false-default.rest.now below w n new
