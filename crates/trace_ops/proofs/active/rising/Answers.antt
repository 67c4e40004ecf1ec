use Rattle.trace_ops.proofs.Sorting.{sorted_rising}
use Rattle.trace_ops.proofs.active.rising.Goals as goal

pub returns : goal.returns
returns c = sorted_rising c.args.numbers.items c.sort.new.self.items c.sort.ensures.permutation c.in_ok-sort.ensures.sorted
