use Rattle.command_runs.specs.Tables.{HoldsRanks}
use Rattle.command_runs.proofs.verbs.timeline.all_ranks.Given as goal

abbrev pub invariant-loop-rank : goal.invariant-loop-rank
invariant-loop-rank g l = HoldsRanks l.rank l.ops.items
