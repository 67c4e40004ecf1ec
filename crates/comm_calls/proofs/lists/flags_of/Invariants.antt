use Rattle.std.proofs.Common.{◌≡◌, map, take}
use Rattle.comm_calls.specs.Numbers.{is_set}
use Rattle.comm_calls.proofs.lists.flags_of.Given as goal

abbrev pub invariant-loop-int : goal.invariant-loop-int
invariant-loop-int l = l.flags.items ≡ map is_set (take l.int-index l.ints)
