use Rattle.std.proofs.Common.{leb, of_calls, rules}
use Rattle.std.proofs.lemmas.Fn.{always_returns_same}
use Rattle.std.proofs.lemmas.List.Sorted.{IsPartitionedBy-leb}
use Rattle.trace_pair.specs.Lanes.{call_of}
use Rattle.trace_pair.specs.declared.lanes.Step.{Step}
use Rattle.trace_pair.proofs.lanes.called_by.Goals as goal

pub returns-clause-parted : goal.returns-clause-parted
returns-clause-parted c =
    c.partition_point.ensures.partitioned (λ (s : Step). leb (call_of s) c.args.call) (always_returns_same _ _ _ (λ a r f k. search (rules, of_calls)))
    (IsPartitionedBy-leb call_of c.args.steps.now c.args.call c.requires)
