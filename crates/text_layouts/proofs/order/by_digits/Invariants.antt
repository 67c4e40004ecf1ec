use Rattle.text_layouts.proofs.Orders.{IsFront}
use Rattle.text_layouts.proofs.order.by_digits.Given as goal

abbrev pub invariant-loop-rank : goal.invariant-loop-rank
invariant-loop-rank l = IsFront l.numbers l.order.items l.rank
