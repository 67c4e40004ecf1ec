use Rattle.std.proofs.Common.{nat_lt, rules}
use Rattle.std.proofs.lemmas.List.Sorted.{IsPartitionPoint-from_clause}
use Rattle.mpi_model.specs.declared.layout.names.Name.{Name}
use Rattle.mpi_model.proofs.Starts.{parted_by_rank, start_at}
use Rattle.mpi_model.proofs.layout.names.start_of.Goals as goal

pub returns : goal.returns
returns c =
    start_at c.args.names.now c.args.rank c.partition_point.result c.partition_point.ensures.bound
    (IsPartitionPoint-from_clause (λ (x : Name). nat_lt x.rank c.args.rank) c.args.names.now c.partition_point.result c.partition_point.ensures.partitioned
    (parted_by_rank c.args.names.now c.requires c.args.rank) (λ a r q k. search rules))
