use Rattle.std.proofs.Common.{◌≡◌, Some, arith, rules, true}
use Rattle.text_layouts.specs.Names.{are_numbered, twice_from}
use Rattle.text_layouts.proofs.Orders.{twice}
use Rattle.text_layouts.proofs.order.order_of.Goals as goal

pub returns-in-Some-twice_in : goal.returns-in-Some-twice_in
returns-in-Some-twice_in c =
    let numbers = c.in_ok-numbers.numbers.items in
    let told : c.are_numbered.result ≡ true = first_of (cc, search rules, grind arith) in
    let all : are_numbered numbers ≡ true = cc in
    let found : twice_from 0 numbers ≡ Some c.in-Some-twice_in.both = cc in
    twice numbers _ c.in-Some-twice_in.both c.in_ok-numbers.ensures all found
