use Rattle.std.proofs.Common.{◌≡◌, ◌++◌, drop, option_map}
use Rattle.comm_calls.specs.Lists.{naturals_of}
use Rattle.comm_calls.proofs.lists.naturals_of.Given as goal

abbrev pub invariant-loop-int : goal.invariant-loop-int
invariant-loop-int l = option_map (λ ns. l.naturals.items ++ ns) (naturals_of (drop l.int-index l.ints)) ≡ naturals_of l.ints
