use Rattle.std.proofs.Common.{◌≡◌, drop}
use Rattle.comm_makings.specs.World.{first_told}
use Rattle.comm_makings.proofs.derivation.first_told.Given as goal

abbrev pub invariant-loop-calls : goal.invariant-loop-calls
invariant-loop-calls l = record {
  counted : l.rank ≡ l.calls-index;
  rest : first_told l.rank (drop l.calls-index l.ranks) ≡ first_told 0 l.ranks;
}
