use Rattle.std.proofs.Common.{◌≡◌, None, take}
use Rattle.call_arguments.specs.Names.{is_byte}
use Rattle.call_arguments.specs.Places.{first_where}
use Rattle.call_arguments.proofs.name.place_of.Given as goal

abbrev pub invariant-loop-at : goal.invariant-loop-at
invariant-loop-at l = first_where (is_byte l.wanted) (take l.at l.text) ≡ None
