use Rattle.std.proofs.Common.{arith}
use Rattle.comm_makings.proofs.Holders.{counted, without_more}
use Rattle.comm_makings.proofs.uses.object_uses.Goals as goal

pub returns : goal.returns
returns c = grind (arith, counted, without_more)
