use Rattle.std.proofs.Common.{◌≡◌, drop}
use Rattle.text_layouts.specs.Names.{are_numbered}
use Rattle.text_layouts.proofs.order.are_numbered.Given as goal

abbrev pub invariant-loop-number : goal.invariant-loop-number
invariant-loop-number l = are_numbered (drop l.number-index l.numbers) ≡ are_numbered l.numbers
