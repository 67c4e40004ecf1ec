use Rattle.std.proofs.Common.{◌≡◌, ◌++◌, drop}
use Rattle.comm_makings.specs.Splits.{colored}
use Rattle.comm_makings.proofs.splits.colored.Given as goal

abbrev pub invariant-loop-here : goal.invariant-loop-here
invariant-loop-here l = record {
  counted : l.place ≡ l.here-index;
  rest : l.asked.items ++ colored l.ranks l.place (drop l.here-index l.all) ≡ colored l.ranks 0 l.all;
}
