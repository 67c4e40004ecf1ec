use Rattle.std.proofs.Common.{arith}
use Rattle.comm_makings.proofs.Holders.{counted}
use Rattle.comm_makings.proofs.uses.uses_of.Goals as goal

pub returns : goal.returns
returns c = grind (arith, counted)
