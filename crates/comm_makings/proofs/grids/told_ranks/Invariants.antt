use Rattle.std.proofs.Common.{◌≡◌, ◌++◌, drop, option_map}
use Rattle.comm_makings.specs.Reordered.{told_ranks}
use Rattle.comm_makings.proofs.grids.told_ranks.Given as goal

abbrev pub invariant-loop-here : goal.invariant-loop-here
invariant-loop-here l = option_map (λ rs. l.told.items ++ rs) (told_ranks l.views (drop l.here-index l.all)) ≡ told_ranks l.views l.all
