use Rattle.std.proofs.Common.{nat_eq}
use Rattle.indexmap.specs.IndexMap.{get}
use Rattle.comm_makings.specs.Offers.{AreRanked}
use Rattle.comm_makings.proofs.creates.places_by_rank.Given as goal

abbrev pub invariant-loop-at : goal.invariant-loop-at
invariant-loop-at l = AreRanked (get nat_eq l.places) l.members
