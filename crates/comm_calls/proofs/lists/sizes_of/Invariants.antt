use Rattle.std.proofs.Common.{◌≡◌, map, take}
use Rattle.comm_calls.specs.Lists.{size_of}
use Rattle.comm_calls.proofs.lists.sizes_of.Given as goal

abbrev pub invariant-loop-int : goal.invariant-loop-int
invariant-loop-int l = l.sizes.items ≡ map size_of (take l.int-index l.ints)
