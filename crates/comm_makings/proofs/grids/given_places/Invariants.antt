use Rattle.std.proofs.Common.{◌≡◌, ◌++◌, drop}
use Rattle.comm_makings.specs.Reordered.{given_places}
use Rattle.comm_makings.proofs.grids.given_places.Given as goal

abbrev pub invariant-loop-here : goal.invariant-loop-here
invariant-loop-here l = record {
  counted : l.place ≡ l.here-index;
  rest : l.places.items ++ given_places l.place (drop l.here-index l.all) ≡ given_places 0 l.all;
}
