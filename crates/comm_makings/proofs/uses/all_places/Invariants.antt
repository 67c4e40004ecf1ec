use Rattle.std.proofs.Common.{◌≡◌, ◌++◌, drop}
use Rattle.comm_makings.specs.Uses.{places_from}
use Rattle.comm_makings.proofs.uses.all_places.Given as goal

abbrev pub invariant-loop-handle : goal.invariant-loop-handle
invariant-loop-handle l = l.places.items ++ places_from l.handle (drop l.handle l.handles) ≡ places_from 0 l.handles
