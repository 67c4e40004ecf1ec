use Rattle.std.proofs.Common.{arith}
use Rattle.trace_wait.proofs.Columns.{small_group}
use Rattle.trace_wait.proofs.tally.members_of.Goals as goal

pub returns-in-Some-clause-few : goal.returns-in-Some-clause-few
returns-in-Some-clause-few c = omega (arith, small_group c.args.layout.now.ranks c.in-Some.ranks.now c.in-Some.ensures.group, c.known.ensures.few_ranks)
