use Rattle.std.proofs.Common.{arith}
use Rattle.std.proofs.lemmas.Grind.{common_steps}
use Rattle.comm_makings.proofs.GroupCalls.{of_calls_more}
use Rattle.comm_makings.proofs.by_groups.calls_by_place.Goals as goal

pub returns : goal.returns
returns c = grind (arith, common_steps, of_calls_more)
