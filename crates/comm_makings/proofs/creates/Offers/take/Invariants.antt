use Rattle.std.proofs.Common.{◌≡◌}
use Rattle.comm_makings.proofs.creates.Offers.take.Given as goal

abbrev pub invariant-loop-rank : goal.invariant-loop-rank
invariant-loop-rank l = l.self.groups ≡ l.initial.self.groups
