use Rattle.std.proofs.Common.{◌≡◌, Some, map, take, nat_eq}
use Rattle.indexmap.specs.IndexMap.{get}
use Rattle.comm_makings.proofs.creates.places_of.Given as goal

abbrev pub invariant-loop-rank : goal.invariant-loop-rank
invariant-loop-rank l = map Some l.found.items ≡ map (get nat_eq l.places) (take l.rank-index l.ranks)
