use Rattle.std.proofs.Common.{◌≡◌, drop}
use Rattle.comm_makings.specs.World.{other_told}
use Rattle.comm_makings.proofs.derivation.other_told.Given as goal

abbrev pub invariant-loop-calls : goal.invariant-loop-calls
invariant-loop-calls l = record {
  counted : l.rank ≡ l.calls-index;
  rest : other_told l.world l.rank (drop l.calls-index l.ranks) ≡ other_told l.world 0 l.ranks;
}
