use Rattle.std.specs.Cmp.Lexicographic.{pointwise_decides}
use Rattle.trace_check.proofs.SameTables.{name_same}
use Rattle.trace_check.proofs.tables.are_same_names.Goals as goal

pub returns : goal.returns
returns c = rw c.eq.ensures (pointwise_decides name_same c.args.first.now c.args.second.now)
