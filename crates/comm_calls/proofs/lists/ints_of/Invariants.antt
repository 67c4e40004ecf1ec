use Rattle.std.proofs.Common.{◌≡◌, ◌++◌, drop, option_map}
use Rattle.comm_calls.specs.Lists.{ints_of}
use Rattle.comm_calls.proofs.lists.ints_of.Given as goal

abbrev pub invariant-loop-number : goal.invariant-loop-number
invariant-loop-number l = option_map (λ ns. l.ints.items ++ ns) (ints_of (drop l.number-index l.numbers)) ≡ ints_of l.numbers
