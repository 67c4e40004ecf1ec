use Rattle.std.proofs.Common.{◌≡◌, true, take}
use Rattle.std.specs.List.{list_all}
use Rattle.call_arguments.specs.Counts.{is_natural}
use Rattle.call_arguments.proofs.count.are_natural.Given as goal

abbrev pub invariant-loop-number : goal.invariant-loop-number
invariant-loop-number l = list_all is_natural (take l.number-index l.numbers) ≡ true
