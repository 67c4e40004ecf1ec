use Rattle.std.proofs.Common.{arith}
use Rattle.std.proofs.lemmas.Grind.{common_steps}
use Rattle.comm_makings.proofs.ObjectFirsts.{none_one, other_one}
use Rattle.comm_makings.proofs.objects.making_of.Goals as goal

pub returns-in-None : goal.returns-in-None
returns-in-None c = grind (arith, common_steps, none_one, other_one)

pub returns-then-are_alike : goal.returns-then-are_alike
returns-then-are_alike c = grind (arith, common_steps, none_one, other_one)
