use Rattle.std.proofs.Common.{rules}
use Rattle.std.proofs.lemmas.List.Sorted.{IsPartitionPoint-from_clause}
use Rattle.mpi_model.specs.Names.{precedes}
use Rattle.mpi_model.proofs.layout.names.place_among.Goals as goal

pub returns-clause-point : goal.returns-clause-point
returns-clause-point c =
    IsPartitionPoint-from_clause (precedes c.args.rank c.args.number c.args.call) c.args.names.now c.partition_point.result c.partition_point.ensures.partitioned
    c.requires (λ a r q k. search rules)
