use Rattle.std.proofs.Common.{◌-◌, arith, sym}
use Rattle.trace_pair.proofs.Laned.{end_before}
use Rattle.trace_pair.proofs.lanes.end_of_front.Goals as goal

pub returns-else-count-eq0 : goal.returns-else-count-eq0
returns-else-count-eq0 c = sym (end_before c.args.steps.now c.args.count (c.args.count - 1) _ (omega arith) (omega arith))
