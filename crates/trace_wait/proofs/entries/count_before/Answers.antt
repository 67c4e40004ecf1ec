use Rattle.std.proofs.Common.{Bool, nat_lt, rules}
use Rattle.std.proofs.lemmas.List.Sorted.{IsPartitionPoint-from_clause, IsPartitionedBy-ltb}
use Rattle.trace_ops.specs.declared.entered.Entered.{Entered}
use Rattle.trace_wait.proofs.Before.{point_counts}
use Rattle.trace_wait.proofs.entries.count_before.Goals as goal

pub returns : goal.returns
returns c =
    let early : Entered → Bool = λ e. nat_lt e.call c.args.n in
    point_counts early c.args.entries.now c.partition_point.result c.partition_point.ensures.bound
    (IsPartitionPoint-from_clause early c.args.entries.now c.partition_point.result c.partition_point.ensures.partitioned
    (IsPartitionedBy-ltb (λ (e : Entered). e.call) c.args.entries.now c.args.n c.requires) (λ a r q k. search rules))
