use Rattle.std.proofs.Common.{◌≡◌, take}
use Rattle.std.specs.List.{fold}
use Rattle.text_layouts.specs.Seats.{with_number}
use Rattle.text_layouts.proofs.seats.count_of.Given as goal

abbrev pub invariant-loop-number : goal.invariant-loop-number
invariant-loop-number l = l.count ≡ fold with_number 0 (take l.number-index l.numbers)
