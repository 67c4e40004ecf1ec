use Rattle.std.proofs.Common.{ℕ, List, nat_eq}
use Rattle.indexmap.specs.IndexMap.{get}
use Rattle.comm_makings.specs.Offers.{AreOfferedParts, AreRanked}
use Rattle.comm_makings.proofs.creates.parts_at.Given as goal

abbrev pub invariant-loop-offer : goal.invariant-loop-offer
invariant-loop-offer l = (ranks : List ℕ) → AreRanked (get nat_eq l.placed) ranks → AreOfferedParts ranks l.offers l.parts.items
