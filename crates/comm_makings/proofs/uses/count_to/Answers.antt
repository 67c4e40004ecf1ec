use Rattle.std.proofs.Common.{rules}
use Rattle.std.proofs.lemmas.List.Sorted.{IsPartitionPoint-from_clause}
use Rattle.comm_makings.specs.Uses.{precedes}
use Rattle.comm_makings.proofs.uses.count_to.Goals as goal

pub returns-clause-point : goal.returns-clause-point
returns-clause-point c =
    IsPartitionPoint-from_clause (precedes c.args.number c.args.call) c.args.places.now c.partition_point.result c.partition_point.ensures.partitioned
    c.requires (λ a r q k. search rules)
