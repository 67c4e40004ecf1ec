use Rattle.std.proofs.Common.{arith}
use Rattle.text_layouts.proofs.Orders.{one_rank_more, no_rank_yet, all_ranks, lacks_rank}
use Rattle.text_layouts.proofs.order.by_digits.Goals as goal

pub loop-rank-preserved : goal.loop-rank-preserved
loop-rank-preserved c = grind (arith, one_rank_more)

pub loop-rank-init : goal.loop-rank-init
loop-rank-init c = grind (arith, no_rank_yet)

pub returns-clause-some : goal.returns-clause-some
returns-clause-some c = grind (arith, all_ranks)

pub returns-in-None-clause-none : goal.returns-in-None-clause-none
returns-in-None-clause-none c = grind (arith, lacks_rank)
