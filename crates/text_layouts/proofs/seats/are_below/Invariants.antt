use Rattle.std.proofs.Common.{◌≡◌, drop}
use Rattle.text_layouts.specs.Seats.{are_below}
use Rattle.text_layouts.proofs.seats.are_below.Given as goal

abbrev pub invariant-loop-number : goal.invariant-loop-number
invariant-loop-number l = are_below l.most (drop l.number-index l.numbers) ≡ are_below l.most l.numbers
