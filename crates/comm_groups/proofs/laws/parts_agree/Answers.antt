use Rattle.comm_groups.proofs.Alike.{alike_agree}
use Rattle.comm_groups.proofs.laws.parts_agree.Goals as goal

pub returns : goal.returns
returns c = alike_agree
