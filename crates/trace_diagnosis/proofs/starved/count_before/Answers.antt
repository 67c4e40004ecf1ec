use Rattle.std.proofs.Common.{Bool, nat_lt, rules}
use Rattle.std.proofs.lemmas.List.Sorted.{IsPartitionPoint-from_clause, IsPartitionedBy-ltb}
use Rattle.mpi_model.specs.Trusts.{is_open}
use Rattle.mpi_model.specs.declared.message.Receive.{Receive}
use Rattle.trace_diagnosis.proofs.Fronting.{calls_rise, up_to}
use Rattle.trace_diagnosis.proofs.starved.count_before.Goals as goal

pub returns-clause-opened : goal.returns-clause-opened
returns-clause-opened c =
    let early : Receive → Bool = λ u. nat_lt u.name.call c.args.call in
    up_to is_open early c.args.receives.now c.partition_point.result c.partition_point.ensures.bound
    (IsPartitionPoint-from_clause early c.args.receives.now c.partition_point.result c.partition_point.ensures.partitioned
    (IsPartitionedBy-ltb (λ (u : Receive). u.name.call) c.args.receives.now c.args.call (calls_rise c.args.receives.now c.requires)) (λ a r q k. search rules))
